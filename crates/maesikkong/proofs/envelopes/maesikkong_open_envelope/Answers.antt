-- The goals of `maesikkong::envelopes::maesikkong_open_envelope` that want an answer by hand. Assumes nothing.
use borrow.Author.Rules.{rules}
use Rattle.maesikkong.proofs.EnvelopeSteps.{opens_at}
use Rattle.maesikkong.proofs.envelopes.maesikkong_open_envelope.Goals as goal

pub returns : goal.returns
returns c = search (opens_at, rules)
