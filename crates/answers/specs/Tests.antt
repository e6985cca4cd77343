-- How an entry answers: its tests stand in document 01's order, each with its number, and the answer is the number of the first
-- test that fails, or 0. Where the answer is not 0 an output is as it was.
-- Assumes nothing: these are definitions.
use Rattle.std.specs.Prelude.{◌≡◌, Bool, true, cond, List, [], ◌∷◌, ℕ, zero, suc, ltb}
use Rattle.whole.specs.Every.{every}

pub record Test : Type 0 where
  -- whether the test passes
  pub passes : Bool
  -- what is answered where it is the first that does not
  pub number : ℕ

infix 20 ◌or_else◌
abbrev pub ◌or_else◌ : Bool → ℕ → Test
passes or_else number = record { passes = passes; number = number }

-- the number of the first test that fails, 0 if every test passes
unfoldable pub answer : List Test → ℕ
answer [] = 0
answer (t ∷ ts) = cond t.passes (answer ts) t.number

-- what an output holds after the answer: what is new where it is 0, else what it held
unfoldable pub after : {A : Type 0} → ℕ → A → A → A
after zero new old = new
after (suc number) new old = old

-- no test has the number 0
abbrev pub numbered : List Test → Bool
numbered ts = every (λ (t : Test). ltb 0 t.number) ts

-- every test passes, as facts
unfoldable pub AllPass : List Test → Type 0
AllPass [] = Unit
AllPass (t ∷ ts) = (t.passes ≡ true) × AllPass ts

-- the number that comes back is the answer of these tests
pub record Answered (ts : List Test) (number : ℕ) : Type 0 where
  pub is : number ≡ answer ts

-- an output that held `old` holds `now` after the answer of these tests, where `new` is what they let through
pub record Output {A : Type 0} (ts : List Test) (new old now : A) : Type 0 where
  pub is : now ≡ after (answer ts) new old
