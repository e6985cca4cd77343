-- One polynomial modulo q: n coefficients from 0 to q − 1.
--     made_residues         the residues of a polynomial
--     after_residues        what is drawn from a stream of a_1..a_k
--     residues_factors      two of them as the factors of a product
-- Assumes nothing.
use Rattle.std.specs.Prelude.{◌≡◌, List, ℕ, length}
use Rattle.std.proofs.Common.{sym, ap, ◌∙◌, arith}
use Rattle.whole.specs.Below.{Below}
use Rattle.whole.specs.BelowLaws.{below_take}
use Rattle.ring.specs.Product.{Poly}
use Rattle.ring.specs.Lists.{residues}
use Rattle.ring.specs.ListsLaws.{length_residues, residues_below}
use Rattle.ring.specs.Asks.{Factors}
use Rattle.sets.specs.declared.Numbers.{Numbers}
use Rattle.sets.specs.Good.{Good}
use Rattle.sets.specs.GoodLaws.{q_some}
use Rattle.sampling.specs.declared.drawn.DrawA.{DrawA}
use Rattle.sampling.specs.DrawA.{values_left}
use Rattle.sampling.specs.Promises.{AfterA}
use Rattle.sampling.specs.DrawALaws.{left_below}

pub record Residues (set : Numbers) (xs : List ℕ) : Type 0 where
  pub long : length xs ≡ set.n
  pub below : Below set.q xs

module _ {set : Numbers} (good : Good set) where
  pub made_residues : {xs : List ℕ} (f : Poly) → xs ≡ residues set.q set.n f → Residues set xs
  made_residues f e =
      record {
        long = ap length e ∙ length_residues set.q set.n f;
        below = rw e (residues_below set.q set.n f (q_some good));
      }

  pub after_residues : {d r : DrawA} {out : List ℕ} → AfterA set d out r → length out ≡ set.n → Residues set out
  after_residues {d} drawn long =
      record {
        long = long;
        below = rw drawn.written (below_take set.q set.n (values_left set d) (left_below set good d));
      }

  pub residues_factors : {a b out : List ℕ} → Residues set a → Residues set b → length out ≡ set.n → Factors set.q a b out
  residues_factors a b long =
      record {
        small = omega (arith, good.q_small);
        some = q_some good;
        a_long = a.long ∙ sym long;
        b_long = b.long ∙ sym long;
        a_below = a.below;
        b_below = b.below;
      }
