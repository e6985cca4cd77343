-- What the search asks of its arguments, as named records. Assumes nothing: these are definitions.
use Rattle.std.specs.Prelude.{◌≡◌, List, ℕ, ◌≤◌, length}
use Rattle.sets.specs.declared.Numbers.{Numbers}
use Rattle.sets.specs.Limits.{budget_limit}
use Rattle.records.specs.Layout.{signature_bytes}
use Rattle.attempts.specs.Asks.{Whole, Attempts}

-- a search: what an attempt asks, and a budget of at most 1,024
pub record Searches (set : Numbers) (secret a : List ℕ) (budget : ℕ) (signature : List ℕ) : Type 0 where
  pub attempts : Attempts set secret a signature
  pub few : budget ≤ budget_limit

-- a search that draws a_1..a_k
pub record SearchesKey (set : Numbers) (secret : List ℕ) (budget : ℕ) (signature : List ℕ) : Type 0 where
  pub whole : Whole set secret
  pub few : budget ≤ budget_limit
  pub signature_long : length signature ≡ signature_bytes set
