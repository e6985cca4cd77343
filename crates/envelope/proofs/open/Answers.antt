-- The goals of `envelope::open` that want an answer by hand. Assumes nothing.
use borrow.Author.Rules.{rules}
use Rattle.envelope.proofs.ReadSteps.{opens_ok, opens_err}
use Rattle.envelope.proofs.open.Goals as goal

pub returns-in_err-test_open : goal.returns-in_err-test_open
returns-in_err-test_open c = search (opens_err, c.in_err-test_open.ensures, c.from_residual.ensures.1, rules)

pub returns : goal.returns
returns c = search (opens_ok, c.in_ok-test_open.ensures, rules)
