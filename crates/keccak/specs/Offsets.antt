-- The offsets of ρ, modulo w = 64: the walk of FIPS 202, Algorithm 2.
-- Assumes nothing.
use Rattle.std.specs.Prelude.{List, ℕ, zero, suc, ◌+◌, ◌*◌, ◌/◌, ◌%◌, get_or, set, replicate}

-- step 3, n times from t on: (x, y) has the offset (t + 1)(t + 2) / 2; then (x, y) = (y, (2x + 3y) mod 5)
abbrev pub walk : ℕ → ℕ → ℕ → ℕ → List ℕ → List ℕ
walk zero t x y found = found
walk (suc n) t x y found = walk n (suc t) y ((2 * x + 3 * y) % 5) (set found (x + 5 * y) ((t + 1) * (t + 2) / 2 % 64))

-- steps 1 to 3: (0, 0) has the offset 0, and t goes from 0 to 23, from (x, y) = (1, 0)
unfoldable pub offsets : List ℕ
offsets = walk 24 0 1 0 (replicate 25 0)

unfoldable pub offset : ℕ → ℕ → ℕ
offset x y = get_or offsets (x + 5 * y) 0
