-- The loop of `ring::sparse::row`. The sum is that of the terms so far. Assumes nothing.
use Rattle.std.proofs.Common.{length, map}
use Rattle.ring.specs.Lists.{integers}
use Rattle.ring.proofs.SparseLaws.{Summed}
use Rattle.ring.proofs.sparse.row.Given as goal

abbrev pub invariant-loop-p : goal.invariant-loop-p
invariant-loop-p g l = Summed (length l.f) (integers (map g.T.Coefficient.value l.f)) l.positions l.signs l.k (length l.yielded) l.sum
