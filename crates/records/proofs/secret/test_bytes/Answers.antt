-- The goals of `records::secret::test_bytes` that want an answer by hand. Assumes nothing.
use borrow.Author.Rules.{rules}
use Rattle.answers.specs.TestLaws.{tests}
use Rattle.records.specs.Secret.{byte_tests}
use Rattle.records.proofs.secret.test_bytes.Goals as goal

pub returns-then-not-in_byte_range : goal.returns-then-not-in_byte_range
unfolding byte_tests
returns-then-not-in_byte_range c = search (tests, rules)

pub returns-then-not-in_byte_range-2 : goal.returns-then-not-in_byte_range-2
unfolding byte_tests
returns-then-not-in_byte_range-2 c = search (tests, rules)

pub returns : goal.returns
unfolding byte_tests
returns c = search (tests, rules)
