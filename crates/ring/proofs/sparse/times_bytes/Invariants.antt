-- The loop of `ring::sparse::times_bytes`. The first k coefficients are written. Assumes nothing.
use Rattle.std.proofs.Common.{length}
use Rattle.whole.specs.Fill.{Wrote}
use Rattle.ring.specs.Product.{mul}
use Rattle.ring.specs.Lists.{signed_bytes}
use Rattle.ring.specs.Sparse.{sparse}
use Rattle.ring.proofs.sparse.times_bytes.Given as goal

abbrev pub invariant-loop-k : goal.invariant-loop-k
invariant-loop-k l = Wrote (mul (length l.initial.out) (signed_bytes l.s) (sparse l.positions l.signs)) l.initial.out l.k l.out
