-- The library's tests of a whole list are `every`.
--     every_is     each element passes
--     every_not    none does
--     every_table  each of f 0, .., f (k − 1) passes
-- Assumes nothing.
use Rattle.std.proofs.Common.{◌≡◌, ◌∙◌, refl, ap, ap₂, ℕ, zero, suc, Bool, true, false, not, ◌&&◌, ◌||◌, List, [], ◌∷◌}
use Rattle.std.proofs.Math.Bool.{and-true}
use Rattle.std.specs.List.{list_all, list_any}
use Rattle.std.proofs.lemmas.List.Folds.{list_all-append}
use Rattle.whole.specs.Every.{every, each_below}
use Rattle.whole.specs.Table.{row, table}
use Rattle.whole.specs.TableLaws.{table_suc}

module _ {A : Type 0} (p : A → Bool) where
  pub every_is : (xs : List A) → list_all p xs ≡ every p xs
  unfolding every
  every_is [] = refl
  every_is (x ∷ xs) = ap (λ b. p x && b) (every_is xs)

  pub every_not : (xs : List A) → not (list_any p xs) ≡ every (λ x. not (p x)) xs
  unfolding every
  every_not [] = refl
  every_not (x ∷ xs) = elim (p x) as (λ b. not (b || list_any p xs) ≡ (not b && every (λ y. not (p y)) xs)) [ true ↦ refl | false ↦ every_not xs ]

  pub every_table : (k : ℕ) (f : ℕ → A) → list_all p (table k f) ≡ each_below k (λ i. p (f i))
  unfolding each_below row
  every_table zero f = refl
  every_table (suc k) f =
      ap (list_all p) (table_suc k f) ∙ list_all-append p (table k f) (f k ∷ []) ∙ ap₂ ◌&&◌ (every_table k f) (and-true (p (f k)))
