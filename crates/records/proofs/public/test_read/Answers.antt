-- The goals of `records::public::test_read` that want an answer by hand. Assumes nothing.
use borrow.Author.Rules.{rules}
use Rattle.answers.specs.TestLaws.{tests}
use Rattle.records.specs.Public.{read_public_tests}
use Rattle.records.proofs.public.test_read.Goals as goal

pub returns-then-t-set : goal.returns-then-t-set
unfolding read_public_tests
returns-then-t-set c = search (tests, rules)

pub returns-then-seed_a-ne-SEED_BYTES : goal.returns-then-seed_a-ne-SEED_BYTES
unfolding read_public_tests
returns-then-seed_a-ne-SEED_BYTES c = search (tests, rules)

pub returns : goal.returns
unfolding read_public_tests
returns c = search (tests, rules) depth 12
