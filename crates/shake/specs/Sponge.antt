-- The sponge of SHAKE256, byte by byte: FIPS 202, sections 4 and 6.2, with a rate of 136 bytes. Absorbing and squeezing each
-- hand the state on. The permutation is applied as soon as a block is full or used up.
-- Assumes nothing: these are definitions.
use Rattle.std.specs.Prelude.{Bool, true, false, cond, List, [], ◌∷◌, ℕ, zero, suc, ◌+◌, ◌*◌, ◌/◌, ◌%◌, ◌^◌, ltb, eqb, get_or, set, replicate}
use Rattle.std.specs.Int.Bits.{bit_xor}
use Rattle.keccak.specs.Steps.{keccak_f}
use Rattle.shake.specs.declared.Sponge.{Sponge}

-- bytes of a block
abbrev pub rate : ℕ
rate = 136

-- byte b added (xor) at place p of the block: byte p of the state is byte p % 8 of lane p / 8, lowest first
unfoldable pub xor_at : List ℕ → ℕ → ℕ → List ℕ
xor_at lanes p b = set lanes (p / 8) (bit_xor (get_or lanes (p / 8) 0) (b * 2 ^ (8 * (p % 8))))

-- byte p of the state
unfoldable pub byte_at : List ℕ → ℕ → ℕ
byte_at lanes p = get_or lanes (p / 8) 0 / 2 ^ (8 * (p % 8)) % 256

-- the sponge that has absorbed nothing
unfoldable pub blank : Sponge
blank = record { lanes = replicate 25 0; place = 0; squeezing = false }

-- the sponge whose byte at p is done with
unfoldable pub passed : List ℕ → ℕ → Bool → Sponge
passed lanes p squeezing =
    cond (eqb (p + 1) rate) (record { lanes = keccak_f lanes; place = 0; squeezing = squeezing }) (record { lanes = lanes; place = p + 1; squeezing = squeezing })

-- ---- absorbing

-- what an absorb acts on: the state itself, or the blank one after a squeeze and where the place is out of range
unfoldable pub absorbable : Sponge → Sponge
absorbable s = cond s.squeezing blank (cond (ltb s.place rate) s blank)

unfoldable pub absorb_byte : Sponge → ℕ → Sponge
absorb_byte s b = passed (xor_at s.lanes s.place b) s.place false

unfoldable pub absorb_all : Sponge → List ℕ → Sponge
absorb_all s [] = s
absorb_all s (b ∷ bs) = absorb_all (absorb_byte s b) bs

-- absorbing the bytes bs
unfoldable pub absorbed : Sponge → List ℕ → Sponge
absorbed s bs = absorb_all (absorbable s) bs

-- ---- squeezing

-- absorbing ends: suffix and padding byte 1F at the place, 80 at the block's last byte, and the permutation
unfoldable pub ended : Sponge → Sponge
ended s = record { lanes = keccak_f (xor_at (xor_at s.lanes s.place 0x1F) 135 0x80); place = 0; squeezing = true }

-- what a squeeze acts on: a squeezing state itself, an absorbing one once absorbing has ended; where the place is out of range,
-- the blank one in its stead
unfoldable pub squeezable : Sponge → Sponge
squeezable s = cond (ltb s.place rate) (cond s.squeezing s (ended s)) (ended blank)

unfoldable pub squeeze_next : Sponge → Sponge
squeeze_next s = passed s.lanes s.place true

-- the next n bytes of a squeezing state, and the state after them
unfoldable pub bytes_of : ℕ → Sponge → List ℕ
bytes_of zero s = []
bytes_of (suc n) s = byte_at s.lanes s.place ∷ bytes_of n (squeeze_next s)

unfoldable pub state_after : ℕ → Sponge → Sponge
state_after zero s = s
state_after (suc n) s = state_after n (squeeze_next s)

-- squeezing n bytes: the bytes, and the state that is handed on
unfoldable pub squeezed : ℕ → Sponge → List ℕ
squeezed n s = bytes_of n (squeezable s)

unfoldable pub after_squeeze : ℕ → Sponge → Sponge
after_squeeze n s = state_after n (squeezable s)
