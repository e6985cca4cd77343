-- The goals of `records::secret::test_secret` that want an answer by hand. Assumes nothing.
use borrow.Author.Rules.{rules}
use Rattle.answers.specs.TestLaws.{tests}
use Rattle.records.specs.Secret.{secret_tests}
use Rattle.records.proofs.SecretSteps.{bytes_lent}
use Rattle.records.proofs.secret.test_secret.Goals as goal

pub returns-then-secret-secret_bytes : goal.returns-then-secret-secret_bytes
unfolding secret_tests
returns-then-secret-secret_bytes c = search (tests, rules)

pub returns-then-not-is_marked : goal.returns-then-not-is_marked
unfolding secret_tests
returns-then-not-is_marked c = search (tests, rules)

pub returns : goal.returns
unfolding secret_tests
returns c = search (bytes_lent, tests, rules) depth 12
