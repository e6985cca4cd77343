-- Packing: a polynomial's values at b bits each, coefficient 0 first, lowest bit of the lowest byte first. The values are the digits of
-- one number at b bits, and the bytes are its digits at 8 bits.
-- Assumes nothing.
use Rattle.std.specs.Prelude.{◌≡◌, List, [], ◌∷◌, ℕ, zero, suc, ◌+◌, ◌*◌, ◌/◌, ◌%◌, ◌^◌, ◌≤◌, ◌<◌, length}
use Rattle.whole.specs.Below.{Below}

-- the number whose digits at w bits are vs, lowest first: Σ vᵢ · 2^(w·i)
unfoldable pub value : ℕ → List ℕ → ℕ
value w [] = 0
value w (v ∷ vs) = v + 2 ^ w * value w vs

-- the n lowest digits of x at w bits, lowest first
unfoldable pub digits : ℕ → ℕ → ℕ → List ℕ
digits w zero x = []
digits w (suc n) x = x % 2 ^ w ∷ digits w n (x / 2 ^ w)

-- the bytes that n values of b bits take, rounded up to whole bytes
abbrev pub bytes_for : ℕ → ℕ → ℕ
bytes_for b n = (b * n + 7) / 8

-- the values as one number, in bytes
unfoldable pub packed : ℕ → List ℕ → List ℕ
packed b vs = digits 8 (bytes_for b (length vs)) (value b vs)

-- the n values that stand in the bytes
unfoldable pub unpacked : ℕ → ℕ → List ℕ → List ℕ
unpacked b n bytes = digits b n (value 8 bytes)

-- what `pack` asks of a width, values and the place that they go to
pub record Packs (b : ℕ) (vals out : List ℕ) : Type 0 where
  -- one value fills a byte, so that one refill serves
  pub wide : 8 ≤ b
  -- a value with the bits that wait fits a u64
  pub narrow : b ≤ 32
  -- a value does not run into the next one
  pub below : Below (2 ^ b) vals
  -- the number of all bits fits a usize
  pub few : length vals < 2 ^ 32
  -- every byte has a place
  pub room : bytes_for b (length vals) ≤ length out

-- what `unpack` asks of a width, bytes and the place that the values go to
pub record Unpacks (b : ℕ) (bytes out : List ℕ) : Type 0 where
  -- a byte completes one value at most, so that one store serves
  pub wide : 8 ≤ b
  -- a value fits a u32
  pub narrow : b ≤ 32
  -- the bytes are those of as many values as there are places
  pub exact : length bytes ≡ bytes_for b (length out)
