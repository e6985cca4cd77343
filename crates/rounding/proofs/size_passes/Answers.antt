-- The goals of `rounding::size_passes` that want an answer by hand. Assumes nothing.
use Rattle.rounding.proofs.Laws.{size_fits}
use native.Mathlib.Omega.{arith}
use Rattle.rounding.specs.Tests.{size_passes}
use Rattle.rounding.proofs.size_passes.Goals as goal

pub overflow_add-result : goal.overflow_add-result
overflow_add-result c = omega (arith, size_fits c.requires.w_lt_q c.magnitude.ensures)

pub returns : goal.returns
unfolding size_passes
returns c = rw c.magnitude.ensures
