-- One w_i from what the three polynomial operations give.
-- Assumes nothing.
use mathlib.Core.Path.{◌≡◌, sym, ap, ◌∙◌}
use mathlib.Core.List.{List}
use Prim.Native.Nat.{ℕ, ◌<◌}
use native.Mathlib.Omega.{arith}
use lib.IntN.{ℤ, ◌-ℤ◌}
use lib.ListN.{length}
use Rattle.whole.specs.Residue.{Same}
use Rattle.whole.specs.ResidueLaws.{same_minus, residue_eq}
use Rattle.whole.specs.TableLaws.{table_ext}
use Rattle.ring.specs.Product.{mul}
use Rattle.ring.specs.Lists.{naturals, residues}
use Rattle.ring.specs.ListsLaws.{length_residues, residues_at, residues_below}
use Rattle.ring.specs.Sparse.{sparse}
use Rattle.ring.specs.Asks.{Factors, SparseProduct, TwoResidues}
use Rattle.sets.specs.declared.Numbers.{Numbers}
use Rattle.sets.specs.GoodLaws.{q_some}
use Rattle.sampling.specs.Residues.{made_residues, residues_factors}
use Rattle.checking.specs.Asks.{ForW}
use Rattle.checking.specs.Steps.{w_from, IsW}

module _ {set : Numbers} {t zr ps : List ℕ} {ss : List ℤ} {a w : List ℕ} (asked : ForW set t zr ps ss a w) where
  pub product_asks : Factors set.q a zr w
  product_asks = residues_factors asked.good asked.a_is asked.z_is asked.w_long

  pub sparse_asks : SparseProduct set.q t ps ss a
  sparse_asks =
      record {
        some = q_some asked.good;
        long = asked.t_is.long ∙ sym asked.a_is.long;
        below = asked.t_is.below;
        terms = rw asked.t_is.long asked.c_is.signed;
        few = omega (arith, asked.good.h_drawn, asked.c_is.few);
      }

  module _ {w₁ tc : List ℕ}
      (az : w₁ ≡ residues set.q (length w) (mul (length w) (naturals a) (naturals zr)))
      (tc_is : tc ≡ residues set.q (length a) (mul (length a) (naturals t) (sparse ps ss))) where
    pub subtract_asks : TwoResidues set.q w₁ tc
    subtract_asks =
        record {
          small = asked.good.q_small;
          a_below = rw az (residues_below set.q (length w) _ (q_some asked.good));
          b_below = rw tc_is (residues_below set.q (length a) _ (q_some asked.good));
          long = rw (az, tc_is, length_residues, length_residues, asked.w_long) asked.a_is.long;
        }

    pub difference_is : {w₂ : List ℕ} → w₂ ≡ residues set.q (length w₁) (λ k. naturals w₁ k -ℤ naturals tc k) → IsW set a t zr ps ss w₂
    unfolding w_from
    difference_is {w₂} e = record { is = is_w; residues_are = made_residues asked.good _ is_w }
      where
        long : length w₁ ≡ set.n
        long = ap length az ∙ length_residues set.q (length w) _ ∙ asked.w_long

        product : (k : ℕ) → k < set.n → Same set.q (naturals w₁ k) (mul set.n (naturals a) (naturals zr) k)
        product k l = rw (az, asked.w_long) (residues_at set.q set.n (mul set.n (naturals a) (naturals zr)) k (q_some asked.good) l)

        challenge : (k : ℕ) → k < set.n → Same set.q (naturals tc k) (mul set.n (naturals t) (sparse ps ss) k)
        challenge k l =
            rw (tc_is, asked.a_is.long) (residues_at set.q set.n (mul set.n (naturals t) (sparse ps ss)) k (q_some asked.good) l)

        is_w : w₂ ≡ residues set.q set.n (λ k. mul set.n (naturals a) (naturals zr) k -ℤ mul set.n (naturals t) (sparse ps ss) k)
        is_w =
            e ∙ ap (λ (n : ℕ). residues set.q n (λ k. naturals w₁ k -ℤ naturals tc k)) long
            ∙ table_ext set.n _ _
            (λ k l. residue_eq set.q _ _ (q_some asked.good) (same_minus (product k l) (challenge k l)))
