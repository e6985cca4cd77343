-- The goals of `maesikkong::envelopes::hand_out` that want an answer by hand. Assumes nothing.
use Rattle.maesikkong.proofs.EnvelopeSteps.{handed_ok, handed_err}
use Rattle.maesikkong.proofs.envelopes.hand_out.Goals as goal

pub returns-in-Ok : goal.returns-in-Ok
returns-in-Ok c = handed_ok _ c.in-Ok.is c.number-answered.ensures

pub returns-in-Err : goal.returns-in-Err
returns-in-Err c = handed_err _ c.in-Err.is c.number-answered.ensures
