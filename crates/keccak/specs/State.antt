-- The state of FIPS 202, section 3.1, with lanes of w = 64 bits: 25 numbers, where bit z of a lane is worth 2 ^ z.
-- Assumes nothing.
use Rattle.std.specs.Prelude.{List, [], ◌∷◌, ℕ, zero, suc, ◌+◌, ◌-◌, ◌*◌, ◌/◌, ◌%◌, ◌^◌, get_or}
use Rattle.std.specs.Int.Bits.{bit_or}

-- Lane(x, y), which stands at x + 5 * y
abbrev pub lane : List ℕ → ℕ → ℕ → ℕ
lane A x y = get_or A (x + 5 * y) 0

-- n numbers: f i, f (i + 1), ..
abbrev pub table : ℕ → (ℕ → ℕ) → ℕ → List ℕ
table zero f i = []
table (suc n) f i = f i ∷ table n f (suc i)

-- the state whose Lane(x, y) is f x y
abbrev pub lanes : (ℕ → ℕ → ℕ) → List ℕ
lanes f = table 25 (λ i. f (i % 5) (i / 5)) 0

-- the lane a turned by k below 64: its bit z goes to (z + k) mod 64
abbrev pub rotl : ℕ → ℕ → ℕ
rotl zero a = a
rotl (suc k) a = bit_or (a * 2 ^ suc k % 2 ^ 64) (a / 2 ^ (64 - suc k))

-- the lane a with each of its bits ⊕ 1
abbrev pub complement : ℕ → ℕ
complement a = 2 ^ 64 - 1 - a
