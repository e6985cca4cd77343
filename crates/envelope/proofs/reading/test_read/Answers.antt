-- The goals of `envelope::reading::test_read` that want an answer by hand. The tests of the head, then those of the signature record.
-- Assumes nothing.
use borrow.Author.Rules.{rules}
use Rattle.answers.specs.ResultLaws.{beyond_ok, before_err, answered_err}
use Rattle.sets.specs.Known.{known_good}
use Rattle.envelope.specs.Envelope.{read_tests}
use Rattle.envelope.specs.EnvelopeLaws.{head_numbered}
use Rattle.envelope.proofs.HeadSteps.{head_signed}
use Rattle.envelope.proofs.ReadSteps.{signed_read}
use Rattle.envelope.proofs.reading.test_read.Goals as goal

pub test_head-requires : goal.test_head-requires
test_head-requires c = search (known_good, rules)

pub returns-in_err-test_head : goal.returns-in_err-test_head
unfolding read_tests
returns-in_err-test_head c = search (before_err, answered_err, c.in_err-test_head.ensures, c.from_residual.ensures.1, rules)

pub signature_in-signature-requires : goal.signature_in-signature-requires
signature_in-signature-requires c = search (known_good, rules)

pub test_signed-requires : goal.test_signed-requires
test_signed-requires c = search (head_signed, c.in_ok-test_head.ensures, rules)

pub returns : goal.returns
unfolding read_tests
returns c = beyond_ok c.in_ok-test_head.ensures (head_numbered _ _) (search (signed_read, rules))
