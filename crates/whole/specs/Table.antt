-- The list f 0, .., f (n − 1), and lists in a row. Assumes nothing: these are definitions.
use Rattle.std.specs.Prelude.{List, [], ◌∷◌, ◌++◌, ℕ, zero, suc}

module _ {A : Type 0} where
  -- f i, f (i + 1), .. : n of them
  unfoldable pub row : ℕ → ℕ → (ℕ → A) → List A
  row i zero f = []
  row i (suc n) f = f i ∷ row (suc i) n f

  -- f 0, f 1, .., f (n − 1)
  abbrev pub table : ℕ → (ℕ → A) → List A
  table n f = row 0 n f

  unfoldable pub joined : ℕ → (ℕ → List A) → List A
  joined zero f = []
  joined (suc k) f = joined k f ++ f k
