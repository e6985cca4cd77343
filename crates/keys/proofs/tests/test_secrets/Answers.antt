-- The goals of `keys::tests::test_secrets` that want an answer by hand. Assumes nothing.
use borrow.Author.Rules.{rules}
use Rattle.answers.specs.TestLaws.{tests}
use Rattle.records.specs.Secret.{byte_tests}
use Rattle.keys.specs.Key.{secrets_tests}
use Rattle.keys.proofs.tests.test_secrets.Goals as goal

pub returns-then-not-in_byte_range : goal.returns-then-not-in_byte_range
unfolding secrets_tests byte_tests
returns-then-not-in_byte_range c = search (tests, rules)

pub returns-then-not-in_byte_range-2 : goal.returns-then-not-in_byte_range-2
unfolding secrets_tests byte_tests
returns-then-not-in_byte_range-2 c = search (tests, rules)

pub returns-then-not-sum_passes : goal.returns-then-not-sum_passes
unfolding secrets_tests byte_tests
returns-then-not-sum_passes c = search (tests, rules) depth 12

pub returns-then-not-each_e_passes : goal.returns-then-not-each_e_passes
unfolding secrets_tests byte_tests
returns-then-not-each_e_passes c = search (tests, rules) depth 12

pub returns : goal.returns
unfolding secrets_tests byte_tests
returns c = search (tests, rules) depth 12
