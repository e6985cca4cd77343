-- The goals of `records::secret::test_write` that want an answer by hand. Assumes nothing.
use borrow.Author.Rules.{rules}
use Rattle.answers.specs.TestLaws.{tests}
use Rattle.records.specs.Secret.{write_secret_tests}
use Rattle.records.proofs.secret.test_write.Goals as goal

pub returns-then-s-set : goal.returns-then-s-set
unfolding write_secret_tests
returns-then-s-set c = search (tests, rules)

pub returns-then-e-set : goal.returns-then-e-set
unfolding write_secret_tests
returns-then-e-set c = search (tests, rules)

pub returns-then-seed_a-ne-SEED_BYTES : goal.returns-then-seed_a-ne-SEED_BYTES
unfolding write_secret_tests
returns-then-seed_a-ne-SEED_BYTES c = search (tests, rules)

pub returns-then-seed_y-ne-SEED_BYTES : goal.returns-then-seed_y-ne-SEED_BYTES
unfolding write_secret_tests
returns-then-seed_y-ne-SEED_BYTES c = search (tests, rules) depth 12

pub returns-then-g-ne-DIGEST_BYTES : goal.returns-then-g-ne-DIGEST_BYTES
unfolding write_secret_tests
returns-then-g-ne-DIGEST_BYTES c = search (tests, rules) depth 12

pub returns-then-secret-secret_bytes : goal.returns-then-secret-secret_bytes
unfolding write_secret_tests
returns-then-secret-secret_bytes c = search (tests, rules) depth 12

pub returns : goal.returns
unfolding write_secret_tests
returns c = search (tests, rules) depth 12
