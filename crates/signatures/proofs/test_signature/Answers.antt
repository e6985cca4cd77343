-- The goals of `signatures::test_signature` that want an answer by hand. Assumes nothing.
use borrow.Author.Rules.{rules}
use Rattle.answers.specs.TestLaws.{tests}
use Rattle.sets.specs.Known.{known_good}
use Rattle.signatures.specs.Signature.{signature_tests}
use Rattle.signatures.proofs.test_signature.Goals as goal

pub signature_bytes-requires : goal.signature_bytes-requires
unfolding signature_tests
signature_bytes-requires c = search (known_good, rules)

pub returns-then-signature-signature_bytes : goal.returns-then-signature-signature_bytes
unfolding signature_tests
returns-then-signature-signature_bytes c = search (tests, rules)

pub returns-then-not-is_marked : goal.returns-then-not-is_marked
unfolding signature_tests
returns-then-not-is_marked c = search (tests, rules)

pub returns-then-not-z_passes : goal.returns-then-not-z_passes
unfolding signature_tests
returns-then-not-z_passes c = search (tests, rules) depth 12

pub returns : goal.returns
unfolding signature_tests
returns c = search (tests, rules) depth 12
