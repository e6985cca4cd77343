-- The goals of `sampling::lent_y` that want an answer by hand. Assumes nothing.
use borrow.Author.Rules.{rules}
use Rattle.sampling.proofs.LentSteps.{takes_y_refused, takes_y_done}
use Rattle.sampling.proofs.lent_y.Goals as goal

pub returns-then-stream-out : goal.returns-then-stream-out
returns-then-stream-out c = search (takes_y_refused, rules)

pub returns : goal.returns
returns c = search (takes_y_done, rules)
