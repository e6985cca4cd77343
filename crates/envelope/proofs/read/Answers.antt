-- The goals of `envelope::read` that want an answer by hand. Assumes nothing.
use borrow.Author.Rules.{rules}
use Rattle.envelope.proofs.ReadSteps.{opens_ok, opens_err, read_i}
use Rattle.envelope.proofs.read.Goals as goal

pub returns-in_err-test_read : goal.returns-in_err-test_read
returns-in_err-test_read c = opens_err _ _ _ (search (read_i, c.in_err-test_read.ensures, rules)) c.from_residual.ensures.1

pub returns : goal.returns
returns c = opens_ok _ (search (read_i, c.in_ok-test_read.ensures, rules)) c.opened.ensures
