-- The goals of `records::public::test_write` that want an answer by hand. Assumes nothing.
use borrow.Author.Rules.{rules}
use Rattle.answers.specs.TestLaws.{tests}
use Rattle.records.specs.Public.{write_public_tests}
use Rattle.records.proofs.public.test_write.Goals as goal

pub returns-then-t-set : goal.returns-then-t-set
unfolding write_public_tests
returns-then-t-set c = search (tests, rules)

pub returns-then-seed_a-ne-SEED_BYTES : goal.returns-then-seed_a-ne-SEED_BYTES
unfolding write_public_tests
returns-then-seed_a-ne-SEED_BYTES c = search (tests, rules)

pub returns-then-public-public_bytes : goal.returns-then-public-public_bytes
unfolding write_public_tests
returns-then-public-public_bytes c = search (tests, rules)

pub returns-then-not-t_in_range : goal.returns-then-not-t_in_range
unfolding write_public_tests
returns-then-not-t_in_range c = search (tests, rules) depth 12

pub returns : goal.returns
unfolding write_public_tests
returns c = search (tests, rules) depth 12
