-- Lists whose every number is below a bound, and lists of whole numbers from −m to m. Assumes nothing: these are definitions.
use Rattle.std.specs.Prelude.{List, ℕ, ◌≤◌, ◌<◌, length, get_or, ℤ, pos, nat_abs}

pub record Below (m : ℕ) (xs : List ℕ) : Type 0 where
  pub at : (i : ℕ) → i < length xs → get_or xs i 0 < m

-- every number is from −m to m
pub record Within (m : ℕ) (zs : List ℤ) : Type 0 where
  pub at : (i : ℕ) → i < length zs → nat_abs (get_or zs i (pos 0)) ≤ m
