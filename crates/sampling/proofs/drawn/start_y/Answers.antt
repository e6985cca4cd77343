-- `sampling::drawn::start_y` meets its contract: two inputs absorbed one after another. Assumes nothing.
use borrow.Author.Rules.{rules}
use Rattle.sampling.proofs.StreamSteps.{y_started}
use Rattle.sampling.proofs.drawn.start_y.Goals as goal

pub returns : goal.returns
returns c = search (y_started, rules)
