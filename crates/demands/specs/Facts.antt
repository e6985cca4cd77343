-- Statements in a row, and their proofs in a row.
-- Assumes nothing.
use Rattle.std.specs.Prelude.{List, [], ◌∷◌}

-- every statement of a table holds
abbrev pub All : List (Type 0) → Type 0
All [] = Unit {0}
All (A ∷ As) = A × All As

-- one proof, and those after it
infixr 5 ◌and◌
abbrev pub ◌and◌ : {A B : Type 0} → A → B → A × B
a and b = (a, b)
