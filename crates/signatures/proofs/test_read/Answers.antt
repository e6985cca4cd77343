-- The goals of `signatures::test_read` that want an answer by hand. Assumes nothing.
use borrow.Author.Rules.{rules}
use Rattle.answers.specs.TestLaws.{tests}
use Rattle.signatures.specs.Signature.{read_signature_tests}
use Rattle.signatures.proofs.test_read.Goals as goal

pub returns-then-z-set : goal.returns-then-z-set
unfolding read_signature_tests
returns-then-z-set c = search (tests, rules)

pub returns-then-c-ne-SEED_BYTES : goal.returns-then-c-ne-SEED_BYTES
unfolding read_signature_tests
returns-then-c-ne-SEED_BYTES c = search (tests, rules)

pub returns : goal.returns
unfolding read_signature_tests
returns c = search (tests, rules)
