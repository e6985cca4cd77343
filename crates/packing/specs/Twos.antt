-- Two's complement at b bits for whole lists: what the code asks, and the round trips.
-- Assumes nothing.
use Rattle.std.specs.Prelude.{◌≡◌, refl, List, [], ◌∷◌, map, ℕ, zero, suc, ◌^◌, ◌<◌, length, get_or, ℤ, pos}
use Rattle.std.proofs.Common.{ap₂, suc-le-suc, zero-lt-suc, not-suc-le-zero, le_of_suc-le-suc}
use Rattle.whole.specs.Below.{Below}
use Rattle.whole.specs.BelowLaws.{below_tail}
use Rattle.whole.specs.Twos.{InBits, signed, twos}
use Rattle.whole.specs.TwosLaws.{signed_twos, twos_signed, signed_range}

-- every number is in the range of b bits
pub record AllInBits (b : ℕ) (zs : List ℤ) : Type 0 where
  pub at : (i : ℕ) → i < length zs → InBits b (get_or zs i (pos 0))

-- what `to_bits` asks of a width, numbers and the place that their bits go to
pub record ToBits (b : ℕ) (zs : List ℤ) (out : List ℕ) : Type 0 where
  -- one bit is the sign
  pub wide : 0 < b
  -- 2^b fits a u32, and so do the bits
  pub narrow : b < 32
  -- no number loses a bit
  pub inside : AllInBits b zs
  -- every number has its place
  pub exact : length out ≡ length zs

-- what `from_bits` asks of a width, bits and the place that the numbers go to
pub record FromBits (b : ℕ) (xs : List ℕ) (out : List ℤ) : Type 0 where
  -- one bit is the sign
  pub wide : 0 < b
  -- 2^b fits a u32, and the numbers an i32
  pub narrow : b < 32
  -- no value has more than b bits
  pub below : Below (2 ^ b) xs
  -- every value has its place
  pub exact : length out ≡ length xs

-- ---- the round trips

inside_tail : {b : ℕ} {z : ℤ} {zs : List ℤ} → AllInBits b (z ∷ zs) → AllInBits b zs
inside_tail h = record { at = λ i l. h.at (suc i) (suc-le-suc l) }

-- the numbers come back
pub signed_twos_all : (b : ℕ) (zs : List ℤ) → 0 < b → AllInBits b zs → map (signed b) (map (twos b) zs) ≡ zs
signed_twos_all b [] h r = refl
signed_twos_all b (z ∷ zs) h r =
    ap₂ ◌∷◌ (signed_twos b z h (r.at 0 (zero-lt-suc (length zs)))) (signed_twos_all b zs h (inside_tail r))

-- the bits come back
pub twos_signed_all : (b : ℕ) (xs : List ℕ) → 0 < b → Below (2 ^ b) xs → map (twos b) (map (signed b) xs) ≡ xs
twos_signed_all b [] h r = refl
twos_signed_all b (x ∷ xs) h r =
    ap₂ ◌∷◌ (twos_signed b x h (r.at 0 (zero-lt-suc (length xs)))) (twos_signed_all b xs h (below_tail r))

-- ---- the ranges: what comes out of one goes into the other

each_inside : (b : ℕ) (xs : List ℕ) → 0 < b → Below (2 ^ b) xs → (i : ℕ) → i < length (map (signed b) xs) → InBits b (get_or (map (signed b) xs) i (pos 0))
each_inside b [] h r i l = absurd (not-suc-le-zero l)
each_inside b (x ∷ xs) h r zero l = signed_range b x h (r.at 0 (zero-lt-suc (length xs)))
each_inside b (x ∷ xs) h r (suc i) l = each_inside b xs h (below_tail r) i (le_of_suc-le-suc l)

pub signed_all_inside : (b : ℕ) (xs : List ℕ) → 0 < b → Below (2 ^ b) xs → AllInBits b (map (signed b) xs)
signed_all_inside b xs h r = record { at = each_inside b xs h r }
