-- The loop of `ring::sparse::times`. The first k coefficients are written. Assumes nothing.
use Rattle.std.proofs.Common.{length}
use Rattle.whole.specs.Residue.{residue}
use Rattle.whole.specs.Fill.{Wrote}
use Rattle.ring.specs.Product.{mul}
use Rattle.ring.specs.Lists.{naturals}
use Rattle.ring.specs.Sparse.{sparse}
use Rattle.ring.proofs.sparse.times.Given as goal

abbrev pub invariant-loop-k : goal.invariant-loop-k
invariant-loop-k l = Wrote (λ j. residue l.q (mul (length l.initial.out) (naturals l.t) (sparse l.positions l.signs) j)) l.initial.out l.k l.out
