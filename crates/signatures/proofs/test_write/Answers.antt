-- The goals of `signatures::test_write` that want an answer by hand. Assumes nothing.
use borrow.Author.Rules.{rules}
use Rattle.answers.specs.TestLaws.{tests}
use Rattle.signatures.specs.Signature.{write_signature_tests}
use Rattle.signatures.proofs.test_write.Goals as goal

pub returns-then-z-set : goal.returns-then-z-set
unfolding write_signature_tests
returns-then-z-set c = search (tests, rules)

pub returns-then-c-ne-SEED_BYTES : goal.returns-then-c-ne-SEED_BYTES
unfolding write_signature_tests
returns-then-c-ne-SEED_BYTES c = search (tests, rules)

pub returns-then-signature-signature_bytes : goal.returns-then-signature-signature_bytes
unfolding write_signature_tests
returns-then-signature-signature_bytes c = search (tests, rules)

pub returns-then-not-z_in_range : goal.returns-then-not-z_in_range
unfolding write_signature_tests
returns-then-not-z_in_range c = search (tests, rules) depth 12

pub returns : goal.returns
unfolding write_signature_tests
returns c = search (tests, rules) depth 12
