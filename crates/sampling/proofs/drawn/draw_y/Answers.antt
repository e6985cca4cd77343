-- `sampling::drawn::draw_y` meets its contract: stream 2 of rand and the counter. Assumes nothing.
use borrow.Author.Rules.{rules}
use Rattle.whole.specs.BelowLaws.{below_bytes}
use Rattle.sampling.proofs.StreamSteps.{y_drawn}
use Rattle.sampling.proofs.drawn.draw_y.Goals as goal

pub returns : goal.returns
returns c = search (y_drawn, below_bytes _ (λ i. (c.type_inv.rand i).fits), rules)
