-- The residue of a whole number by m, from 0 to m − 1, and congruence modulo m. Assumes nothing: these are definitions.
use Rattle.std.specs.Prelude.{◌≡◌, ℕ, suc, ◌-◌, ◌%◌, ℤ, pos, negsuc, ◌+ℤ◌, ◌*ℤ◌}

-- z modulo m, from 0 to m − 1
unfoldable pub residue : ℕ → ℤ → ℕ
residue m (pos a) = a % m
residue m (negsuc a) = m - suc (a % m)

-- a and b are congruent modulo q
pub record Same (q : ℕ) (a b : ℤ) : Type 0 where
  pub times : ℤ
  pub is : a ≡ b +ℤ pos q *ℤ times
