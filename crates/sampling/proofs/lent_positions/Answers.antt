-- The goals of `sampling::lent_positions` that want an answer by hand. Assumes nothing.
use borrow.Author.Rules.{rules}
use Rattle.sampling.proofs.LentSteps.{positions_unpaired, positions_few, positions_many, positions_done}
use Rattle.sampling.proofs.lent_positions.Goals as goal

pub returns-then-signs-need : goal.returns-then-signs-need
returns-then-signs-need c = search (positions_unpaired, rules)

pub returns-then-stream-need : goal.returns-then-stream-need
returns-then-stream-need c = search (positions_few, rules)

pub returns-then-set-need : goal.returns-then-set-need
returns-then-set-need c = search (positions_many, rules)

pub returns : goal.returns
returns c = search (positions_done, rules)
