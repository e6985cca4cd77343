-- The steps of the sponge's functions, as laws over the state that a loop has at hand:
--     xor_at_is       the shifted byte that the code adds is the one that `xor_at` adds
--     absorbable_squeezing, absorbable_out, squeezable_out    what an absorb or a squeeze acts on, where it is not the state as it is
--     Absorbing       what is left to absorb comes to what was asked; a byte is one step of it
--     Squeezing       what is still to come with what was written is what was asked; a byte is one step of it
-- Assumes nothing.
use Rattle.std.proofs.Common.{◌≡◌, refl, sym, ap, ◌∙◌, Bool, true, false, cond, ℕ, suc, ◌+◌, ◌-◌, ◌*◌, ◌/◌, ◌%◌, ◌^◌, ◌≤◌, ◌<◌, List, [], ◌∷◌, ◌++◌, length, get_or, set, take, drop, drop-cons, arith, add-one, append_assoc, append-nil, shl_exact, le-ltb}
use Rattle.std.proofs.Math.Nat.{sub-zero}
use Rattle.std.specs.Int.Bits.{bit_xor}
use Rattle.std.proofs.lemmas.List.{drop_all, length-set, take_all, take_more_set}
use Rattle.shake.specs.declared.Sponge.{Sponge}
use Rattle.shake.specs.Sponge.{xor_at, byte_at, blank, passed, absorbable, absorb_byte, absorb_all, absorbed, ended, squeezable, squeeze_next, bytes_of, state_after, squeezed, after_squeeze}
use Rattle.shake.specs.Pieces.{Sound, sound_passed, sound_absorbable, sound_squeezable}

-- the state by its parts
abbrev pub state : List ℕ → ℕ → Bool → Sponge
state lanes p q = record { lanes = lanes; place = p; squeezing = q }

-- a byte keeps its bits when it is shifted to its place in the lane
pub xor_at_is : (lanes : List ℕ) (p b v : ℕ) → b < 256 → v ≡ b * 2 ^ (8 * (p % 8)) % 2 ^ 64
    → set lanes (p / 8) (bit_xor (get_or lanes (p / 8) 0) v) ≡ xor_at lanes p b
unfolding xor_at
xor_at_is lanes p b v h e = rw (e, shl_exact {a = b} 8 (8 * (p % 8)) 64 h (omega arith))

-- ---- what an absorb or a squeeze acts on, where it is not the state as it is

module _ (s : Sponge) where
  pub absorbable_squeezing : s.squeezing ≡ true → absorbable s ≡ blank
  unfolding absorbable
  absorbable_squeezing e = rw e

  pub absorbable_out : 136 ≤ s.place → absorbable s ≡ blank
  unfolding absorbable
  absorbable_out h = rw (le-ltb s.place 136 h) (same s.squeezing)
    where
      same : (q : Bool) → cond q blank blank ≡ blank
      same true = refl
      same false = refl

  pub squeezable_out : 136 ≤ s.place → squeezable s ≡ ended blank
  unfolding squeezable
  squeezable_out h = rw (le-ltb s.place 136 h)

-- ---- absorbing

-- the state at hand comes to the same with the bytes from i on as the state at the start with all of them
pub record Absorbing (start s : Sponge) (bytes : List ℕ) (i : ℕ) : Type 0 where
  pub sound : Sound false s
  pub left : absorb_all s (drop i bytes) ≡ absorb_all start bytes

pub absorbing_none : (s : Sponge) (bytes : List ℕ) {start : Sponge} → start ≡ absorbable s → Absorbing start start bytes 0
absorbing_none s bytes e = record { sound = rw e (sound_absorbable s); left = refl }

module _ {start s : Sponge} {bytes : List ℕ} {i : ℕ} (a : Absorbing start s bytes i) where
  -- byte i is added at the place, which is then done with
  pub absorbing_byte : {more : List ℕ} {t : Sponge} → i < length bytes → more ≡ xor_at s.lanes s.place (get_or bytes i 0)
      → passed more s.place s.squeezing ≡ t → Absorbing start t bytes (i + 1)
  unfolding absorb_all absorb_byte
  absorbing_byte l e f =
      let v : ℕ = get_or bytes i 0 in
      let d : drop i bytes ≡ v ∷ drop (i + 1) bytes = rw add-one (drop-cons bytes i 0 l) in
      rw (← f, e, a.sound.phase)
      (record { sound = sound_passed (xor_at s.lanes s.place v) s.place false a.sound.within; left = rw d at a.left })

  pub absorbing_all : (asked : Sponge) → start ≡ absorbable asked → length bytes ≤ i → s ≡ absorbed asked bytes
  unfolding absorbed absorb_all
  absorbing_all asked e l = rw (drop_all i bytes l) at a.left ∙ ap (λ t. absorb_all t bytes) e

-- ---- squeezing

-- the first k of the bytes that follow the state at the start stand in the slice; the state at hand gives the others, and comes to the same
pub record Squeezing (start s : Sponge) (out : List ℕ) (k : ℕ) : Type 0 where
  pub sound : Sound true s
  pub bytes : take k out ++ bytes_of (length out - k) s ≡ bytes_of (length out) start
  pub after : state_after (length out - k) s ≡ state_after (length out) start

pub squeezing_none : (s : Sponge) (out : List ℕ) {start : Sponge} → start ≡ squeezable s → Squeezing start start out 0
squeezing_none s out e = record { sound = rw e (sound_squeezable s); bytes = rw sub-zero refl; after = rw sub-zero refl }

module _ {start s : Sponge} {out : List ℕ} {k : ℕ} (a : Squeezing start s out k) where
  -- the byte at the place is stored at k, and the place is done with
  pub squeezing_byte : {t : Sponge} {v : ℕ} → k < length out → v ≡ byte_at s.lanes s.place → passed s.lanes s.place s.squeezing ≡ t
      → Squeezing start t (set out k v) (k + 1)
  unfolding bytes_of state_after squeeze_next
  squeezing_byte {v = v} l e f =
      let n : length out - k ≡ suc (length out - (k + 1)) = omega arith in
      rw (← f, a.sound.phase)
      (record {
        sound = sound_passed s.lanes s.place true a.sound.within;
        bytes = rw (length-set, take_more_set out k v l, append_assoc, e) (rw n at a.bytes);
        after = rw length-set (rw n at a.after);
      })

  pub squeezing_all : (asked : Sponge) (n : ℕ) → start ≡ squeezable asked → length out ≡ n → length out ≤ k
      → (s ≡ after_squeeze n asked) × (out ≡ squeezed n asked)
  unfolding squeezed after_squeeze bytes_of state_after
  squeezing_all asked n e h l =
      let z : length out - k ≡ 0 = omega arith in
      let r : s ≡ state_after (length out) start = rw z at a.after in
      let w : out ++ [] ≡ bytes_of (length out) start = rw (z, take_all k out l) at a.bytes in
      (rw (← e, ← h) r, rw (← e, ← h) (sym (append-nil out) ∙ w))
