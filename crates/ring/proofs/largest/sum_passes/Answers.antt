-- The goals of `ring::largest::sum_passes` that want an answer by hand. Assumes nothing.
use Rattle.ring.specs.Largest.{sum_passes}
use Rattle.ring.proofs.largest.sum_passes.Goals as goal

pub returns-clause-value : goal.returns-clause-value
unfolding sum_passes
returns-clause-value c = cc
