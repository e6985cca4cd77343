-- `sampling::drawn::start_a` meets its contract: the fresh state of stream 1 absorbs seed_a. Assumes nothing.
use borrow.Author.Rules.{rules}
use Rattle.whole.specs.BelowLaws.{below_bytes}
use Rattle.sampling.specs.DrawALaws.{started_a}
use Rattle.sampling.proofs.drawn.start_a.Goals as goal

pub returns : goal.returns
returns c = search (started_a, below_bytes _ (λ i. (c.type_inv.seed_a i).fits), rules)
