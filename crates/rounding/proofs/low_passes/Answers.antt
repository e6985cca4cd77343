-- The goals of `rounding::low_passes` that want an answer by hand. Assumes nothing.
use Rattle.rounding.proofs.Laws.{low_fits}
use native.Mathlib.Omega.{arith}
use Rattle.rounding.specs.Tests.{low_passes}
use Rattle.rounding.proofs.low_passes.Goals as goal

pub overflow_add-result : goal.overflow_add-result
overflow_add-result c = omega (arith, low_fits c.requires.rounds c.low_magnitude.ensures)

pub returns : goal.returns
unfolding low_passes
returns c = rw (c.low_magnitude.ensures, c.half_step.ensures.is)
