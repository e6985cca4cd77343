-- The goals of `keys::tests::test_inputs` that want an answer by hand. Assumes nothing.
use borrow.Author.Rules.{rules}
use Rattle.answers.specs.TestLaws.{tests}
use Rattle.keys.specs.Key.{make_key_tests}
use Rattle.keys.proofs.tests.test_inputs.Goals as goal

pub returns-then-s-set : goal.returns-then-s-set
unfolding make_key_tests
returns-then-s-set c = search (tests, rules)

pub returns-then-e-set : goal.returns-then-e-set
unfolding make_key_tests
returns-then-e-set c = search (tests, rules)

pub returns-then-seed_a-ne-SEED_BYTES : goal.returns-then-seed_a-ne-SEED_BYTES
unfolding make_key_tests
returns-then-seed_a-ne-SEED_BYTES c = search (tests, rules)

pub returns-then-seed_y-ne-SEED_BYTES : goal.returns-then-seed_y-ne-SEED_BYTES
unfolding make_key_tests
returns-then-seed_y-ne-SEED_BYTES c = search (tests, rules) depth 12

pub returns-then-public-public_bytes : goal.returns-then-public-public_bytes
unfolding make_key_tests
returns-then-public-public_bytes c = search (tests, rules) depth 12

pub returns-then-secret-secret_bytes : goal.returns-then-secret-secret_bytes
unfolding make_key_tests
returns-then-secret-secret_bytes c = search (tests, rules) depth 12

pub returns : goal.returns
unfolding make_key_tests
returns c = search (tests, rules) depth 12
