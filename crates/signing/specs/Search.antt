-- The search for the smallest counter, from 1 up, whose attempt passes. An attempt that overflows ends it.
-- Assumes nothing: these are definitions.
use Rattle.std.specs.Prelude.{List, ℕ, zero, suc, ℤ}
use Rattle.attempts.specs.Attempt.{Outcome, passes, fails, overflows}

pub data Found : Type 0 where
  -- the counter of the attempt that passed, with its z and c'
  found : ℕ → List ℤ → List ℕ → Found
  none : Found
  overflow : Found

-- what an attempt makes of the search, where `later` is what the counters after it give
abbrev pub next : Outcome → ℕ → Found → Found
next (passes z c') counter later = found counter z c'
next fails counter later = later
next overflows counter later = overflow

-- the search over `left` counters from `counter` on
unfoldable pub search_from : (ℕ → Outcome) → ℕ → ℕ → Found
search_from attempt zero counter = none
search_from attempt (suc left) counter = next (attempt counter) counter (search_from attempt left (suc counter))

-- counters 1 to the budget
abbrev pub search : (ℕ → Outcome) → ℕ → Found
search attempt budget = search_from attempt budget 1
