-- Tests of numbers that hold alike have one value.
-- Assumes nothing.
use Rattle.std.specs.Prelude.{◌≡◌, refl, Bool, true, false, ℕ, ◌≤◌, ◌<◌, eqb, leb}
use Rattle.std.proofs.Common.{sym, ◌∙◌, leb-true, leb-false, le-leb, eqb-true, eq-eqb, ne_eqb}
use Rattle.std.proofs.lemmas.Bool.{lt-leb, eqb-false}

module _ (a b c d : ℕ) where
  pub leb_alike : (a ≤ b → c ≤ d) → (b < a → d < c) → leb a b ≡ leb c d
  leb_alike f g = go (leb a b) refl
    where
      go : (x : Bool) → leb a b ≡ x → leb a b ≡ leb c d
      go true e = e ∙ sym (le-leb c d (f (leb-true a b e)))
      go false e = e ∙ sym (lt-leb c d (g (leb-false a b e)))

  pub eqb_alike : (a ≡ b → c ≡ d) → (c ≡ d → a ≡ b) → eqb a b ≡ eqb c d
  eqb_alike f g = go (eqb a b) refl
    where
      go : (x : Bool) → eqb a b ≡ x → eqb a b ≡ eqb c d
      go true e = e ∙ sym (eq-eqb c d (f (eqb-true a b e)))
      go false e = e ∙ sym (ne_eqb c d (λ h. eqb-false a b e (g h)))
