-- One t = a s + e: from what the product and the sum give, each modulo q. Assumes nothing.
use mathlib.Core.Path.{◌≡◌, sym, ap, ◌∙◌}
use mathlib.Core.List.{List}
use Prim.Native.Nat.{ℕ, ◌<◌}
use lib.IntN.{◌+ℤ◌}
use lib.ListN.{length}
use Rattle.whole.specs.Residue.{Same}
use Rattle.whole.specs.ResidueLaws.{same_refl, same_trans, same_add, residue_eq}
use Rattle.whole.specs.TableLaws.{table_ext}
use Rattle.ring.specs.Asks.{Factors, WithBytes}
use Rattle.ring.specs.Lists.{naturals, signed_bytes, residues}
use Rattle.ring.specs.ListsLaws.{length_residues, residues_at, residues_below, mul_residues}
use Rattle.ring.specs.Product.{mul}
use Rattle.sets.specs.declared.Numbers.{Numbers}
use Rattle.sets.specs.GoodLaws.{q_some}
use Rattle.sampling.specs.Residues.{made_residues, residues_factors}
use Rattle.keys.specs.Asks.{ForT}
use Rattle.keys.specs.Key.{sum_of}

module _ {set : Numbers} {a s e sr t sr₁ : List ℕ} (asked : ForT set a s e sr t) (s_is : sr₁ ≡ residues set.q (length sr) (signed_bytes s)) where
  residues_are : sr₁ ≡ residues set.q set.n (signed_bytes s)
  residues_are = s_is ∙ ap (λ (n : ℕ). residues set.q n (signed_bytes s)) asked.sr_long

  pub product_asks : Factors set.q a sr₁ t
  product_asks =
      residues_factors asked.good asked.a_is (made_residues asked.good (signed_bytes s) residues_are) asked.t_long

  module _ {t₁ : List ℕ} (product_is : t₁ ≡ residues set.q (length t) (mul (length t) (naturals a) (naturals sr₁))) where
    long : length t₁ ≡ set.n
    long = ap length product_is ∙ length_residues set.q (length t) _ ∙ asked.t_long

    pub sum_asks : WithBytes set.q t₁ e
    sum_asks =
        record {
          bytes = record { small = asked.good.q_small; above = asked.good.q_large; long = asked.e_long ∙ sym long };
          below = rw product_is (residues_below set.q (length t) _ (q_some asked.good));
        }

    product : (k : ℕ) → k < set.n → Same set.q (naturals t₁ k) (mul set.n (naturals a) (signed_bytes s) k)
    product k l =
        same_trans {b = mul set.n (naturals a) (naturals sr₁) k}
        (rw (product_is, asked.t_long) (residues_at set.q set.n (mul set.n (naturals a) (naturals sr₁)) k (q_some asked.good) l))
        (rw residues_are (mul_residues set.q set.n (naturals a) (signed_bytes s) k (q_some asked.good) l))

    pub sum_is : {t₂ : List ℕ} → t₂ ≡ residues set.q (length t₁) (λ k. naturals t₁ k +ℤ signed_bytes e k) → t₂ ≡ sum_of set a s e
    sum_is f =
        f ∙ ap (λ (n : ℕ). residues set.q n (λ k. naturals t₁ k +ℤ signed_bytes e k)) long
        ∙ table_ext set.n _ _
        (λ k l. residue_eq set.q _ _ (q_some asked.good) (same_add (product k l) (same_refl set.q (signed_bytes e k))))
