-- The loop of `ring::product::multiply`. The first k coefficients are written. Assumes nothing.
use Rattle.std.proofs.Common.{length}
use Rattle.whole.specs.Residue.{residue}
use Rattle.whole.specs.Fill.{Wrote}
use Rattle.ring.specs.Product.{mul}
use Rattle.ring.specs.Lists.{naturals}
use Rattle.ring.proofs.product.multiply.Given as goal

abbrev pub invariant-loop-k : goal.invariant-loop-k
invariant-loop-k l = Wrote (λ j. residue l.q (mul (length l.initial.out) (naturals l.a) (naturals l.b) j)) l.initial.out l.k l.out
