-- The goals of `sampling::lent_a` that want an answer by hand. Assumes nothing.
use borrow.Author.Rules.{rules}
use Rattle.sampling.proofs.LentSteps.{takes_a_refused, takes_a_done}
use Rattle.sampling.proofs.lent_a.Goals as goal

pub returns-then-stream-out : goal.returns-then-stream-out
returns-then-stream-out c = search (takes_a_refused, rules)

pub returns : goal.returns
returns c = search (takes_a_done, rules)
