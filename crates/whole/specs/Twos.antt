-- Two's complement at b bits: the number that b bits stand for, and the bits of a number. Assumes nothing: these are definitions.
use Rattle.std.specs.Prelude.{cond, ℕ, ◌-◌, ◌^◌, ◌≤◌, ◌<◌, ltb, ℤ, pos, ◌-ℤ◌}
use Rattle.whole.specs.Int.{up, down}
use Rattle.whole.specs.Residue.{residue}

-- b bits with the value x: x itself below 2^(b − 1), and x − 2^b from there on
unfoldable pub signed : ℕ → ℕ → ℤ
signed b x = cond (ltb x (2 ^ (b - 1))) (pos x) (pos x -ℤ pos (2 ^ b))

-- the b bits of z
abbrev pub twos : ℕ → ℤ → ℕ
twos b z = residue (2 ^ b) z

-- the range of b bits: from −2^(b − 1) to 2^(b − 1) − 1
pub record InBits (b : ℕ) (z : ℤ) : Type 0 where
  pub above : down z ≤ 2 ^ (b - 1)
  pub below : up z < 2 ^ (b - 1)
