-- The tests of document 01 on a coefficient, as tests that compute. Bounds are written with E on the left of `<`, so that no
-- difference is cut off at 0: x + E < m says x < m − E.
-- Assumes nothing.
use Rattle.std.specs.Prelude.{Bool, ◌≡◌, ℕ, ◌+◌, ◌-◌, ◌/◌, ◌^◌, ◌<◌, ltb, leb, ℤ, pos, negsuc, nat_abs}
use Rattle.rounding.specs.Centred.{centred}
use Rattle.rounding.specs.Parts.{low}

-- w's |low part| is below 2^(d−1) − E
unfoldable pub low_passes : ℕ → ℕ → ℕ → ℤ → Bool
low_passes q d E w = ltb (nat_abs (low q d w) + E) (2 ^ (d - 1))

-- |w|, with w centred by q, is below floor(q/2) − E
unfoldable pub size_passes : ℕ → ℕ → ℤ → Bool
size_passes q E w = ltb (nat_abs (centred q w) + E) (q / 2)

-- |z|, not reduced, is at most the bound (B − S)
unfoldable pub z_passes : ℕ → ℤ → Bool
z_passes bound z = leb (nat_abs z) bound

-- a number fits a signed byte: from −128 to 127
abbrev pub fits_byte : ℤ → Bool
fits_byte (pos a) = ltb a 128
fits_byte (negsuc a) = ltb a 128

-- What the code below asks of a residue v by q and of d
pub record Rounds (q d v : ℕ) : Type 0 where
  -- v is a residue by q
  pub residue : v < q
  -- twice q fits the machine's word, so that sums of a residue and half a step do
  pub small : q < 2 ^ 31
  -- a step of 2^d has a half, and fits beside q
  pub step : 0 < d
  pub fits : d < 31

-- r is half a step, 2^(d−1)
pub record Half (d r : ℕ) : Type 0 where
  pub is : r ≡ 2 ^ (d - 1)
  pub some : 0 < r
  pub small : r < 2 ^ 30
