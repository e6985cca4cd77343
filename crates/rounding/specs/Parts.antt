-- The low and the high part of a number. Assumes nothing: these are definitions.
use Rattle.std.specs.Prelude.{ℕ, ◌^◌, ℤ, pos, ◌-ℤ◌}
use Rattle.std.specs.Int.Signed.{quot_z}
use Rattle.rounding.specs.Centred.{centred}

-- The low part of v: the centred remainder by 2^d of v's centred remainder by q
unfoldable pub low : ℕ → ℕ → ℤ → ℤ
low q d v = centred (2 ^ d) (centred q v)

-- The high part of v: v's centred remainder by q, less the low part, over 2^d. The division leaves no rest (`parts`)
unfoldable pub high : ℕ → ℕ → ℤ → ℤ
high q d v = quot_z (centred q v -ℤ low q d v) (pos (2 ^ d))
