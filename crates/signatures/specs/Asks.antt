-- What the functions of the signature record ask of their caller, as named records. Assumes nothing: these are definitions.
use Rattle.std.specs.Prelude.{◌≡◌, true, List, ℕ, ◌^◌, ◌<◌, ℤ, length}
use Rattle.whole.specs.Below.{Below}
use Rattle.sets.specs.declared.Numbers.{Numbers}
use Rattle.sets.specs.Good.{Good}
use Rattle.sets.specs.Limits.{seed_bytes}
use Rattle.records.specs.Layout.{signature_bytes}
use Rattle.signatures.specs.Signature.{z_in_range}

-- ---- the size of z

-- what `size_of_bits` asks of a width and bits
pub record SizesBits (b x : ℕ) : Type 0 where
  -- one bit is the sign
  pub wide : 0 < b
  -- 2^b fits a u32
  pub narrow : b < 32
  pub below : x < 2 ^ b

-- what `bits_in_range` asks of a width and the bits of each z
pub record RangesBits (b : ℕ) (xs : List ℕ) : Type 0 where
  pub wide : 0 < b
  pub narrow : b < 32
  pub below : Below (2 ^ b) xs

-- ---- reading

-- what `z_passes` asks: a record of the right length
pub record LongSignature (s : Numbers) (signature : List ℕ) : Type 0 where
  pub long : length signature ≡ signature_bytes s

-- what reading the bits of z asks: a record of the right length, and scratch of one polynomial
pub record ScansZ (s : Numbers) (signature scratch : List ℕ) : Type 0 where
  pub good : Good s
  pub signature_long : length signature ≡ signature_bytes s
  pub scratch_long : length scratch ≡ s.n

-- what `unpack_z` asks: a place for z besides
pub record UnpacksZ (s : Numbers) (signature : List ℕ) (z : List ℤ) (scratch : List ℕ) : Type 0 where
  pub good : Good s
  pub signature_long : length signature ≡ signature_bytes s
  pub z_long : length z ≡ s.n
  pub scratch_long : length scratch ≡ s.n

-- what reading z asks where the scratch is made
pub record TakesZ (s : Numbers) (signature : List ℕ) (z : List ℤ) : Type 0 where
  pub signature_long : length signature ≡ signature_bytes s
  pub z_long : length z ≡ s.n

-- what reading a record of the right length asks of its outputs
pub record TakesSignature (s : Numbers) (signature : List ℕ) (z : List ℤ) (c' : List ℕ) : Type 0 where
  pub signature_long : length signature ≡ signature_bytes s
  pub z_long : length z ≡ s.n
  pub c_long : length c' ≡ seed_bytes

-- ---- writing

-- what writing the pieces asks, with the bits of z
pub record WritesPieces (s : Numbers) (bits c' signature : List ℕ) : Type 0 where
  pub good : Good s
  pub bits_long : length bits ≡ s.n
  pub bits_below : Below (2 ^ s.z_bits) bits
  pub c_long : length c' ≡ seed_bytes
  pub signature_long : length signature ≡ signature_bytes s

-- what writing a record from tested values asks
pub record PutsSignature (s : Numbers) (z : List ℤ) (c' signature : List ℕ) : Type 0 where
  pub z_long : length z ≡ s.n
  pub z_inside : z_in_range s z ≡ true
  pub c_long : length c' ≡ seed_bytes
  pub signature_long : length signature ≡ signature_bytes s

-- what `write_checked` asks: scratch of one polynomial besides
pub record WritesChecked (s : Numbers) (z : List ℤ) (c' signature scratch : List ℕ) : Type 0 where
  pub good : Good s
  pub z_long : length z ≡ s.n
  pub z_inside : z_in_range s z ≡ true
  pub c_long : length c' ≡ seed_bytes
  pub signature_long : length signature ≡ signature_bytes s
  pub scratch_long : length scratch ≡ s.n
