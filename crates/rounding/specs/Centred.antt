-- The centred remainder, for every modulus. Assumes nothing: these are definitions.
use Rattle.std.specs.Prelude.{cond, ℕ, ◌*◌, ◌/◌, ◌≤◌, ◌<◌, leb, ℤ, pos, ◌-ℤ◌}
use Rattle.whole.specs.Int.{up, down}
use Rattle.whole.specs.Residue.{residue}

-- The centred remainder of z by m: z's residue where that is at most m / 2, and m less where it is above.
-- For odd m it runs from −floor(m/2) to floor(m/2), for even m from above −m/2 to m/2, which is included.
unfoldable pub centred : ℕ → ℤ → ℤ
centred m z = cond (leb (residue m z) (m / 2)) (pos (residue m z)) (pos (residue m z) -ℤ pos m)

-- The range, for odd and even m alike: 2z is at most m, and −2z is below m
pub record Central (m : ℕ) (z : ℤ) : Type 0 where
  pub most : 2 * up z ≤ m
  pub least : 2 * down z < m
