-- Laws of the set that a mark gives.
-- Assumes nothing.
use mathlib.Core.Path.{◌≡◌, sym, ap, ◌∙◌}
use mathlib.Core.Bool.{Bool, true, false, cond}
use mathlib.Core.List.{List}
use Prim.Native.Nat.{ℕ}
use Rattle.sets.specs.declared.Numbers.{Numbers}
use Rattle.sets.specs.SetI.{set_i}
use Rattle.sets.specs.SetIII.{set_iii}
use Rattle.records.specs.Layout.{marked}
use Rattle.records.specs.Choice.{set_of, own_set}

-- the set of a mark: `third` is set III, and `is` whether the record has its mark
module _ (j : ℕ) (bytes : List ℕ) {third : Numbers} {is : Bool} (e : third ≡ set_iii) (m : is ≡ marked third j bytes) where
  chosen : {b : Bool} → is ≡ b → set_of j bytes ≡ cond b set_iii set_i
  unfolding set_of
  chosen h = ap (λ (b : Bool). cond b set_iii set_i) (ap (λ (s : Numbers). marked s j bytes) (sym e) ∙ sym m ∙ h)

  pub set_third : is ≡ true → third ≡ set_of j bytes
  set_third h = e ∙ sym (chosen h)

  pub set_first : {first : Numbers} → is ≡ false → first ≡ set_i → first ≡ set_of j bytes
  set_first h f = f ∙ sym (chosen h)

-- the set beside one that an entry works in: `is` is whether the record has that one's mark
module _ (set : Numbers) (j : ℕ) (bytes : List ℕ) {is : Bool} (m : is ≡ marked set j bytes) where
  pub own_here : is ≡ true → set ≡ own_set set j bytes
  unfolding own_set
  own_here h = rw (← m, h)

  pub own_other : {other : Numbers} → is ≡ false → other ≡ set_of j bytes → other ≡ own_set set j bytes
  unfolding own_set
  own_other h f = f ∙ rw (← m, h)
