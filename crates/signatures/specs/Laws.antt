-- Laws of the signature record of a good set. What is written reads back: `signature_marked`, `signature_z`, `signature_challenge`; what
-- reads is what would be written: `signature_again`. RoundTripLaws states both from the entries' tests.
-- Assumes nothing.
use Rattle.std.specs.Prelude.{◌≡◌, true, ℕ, ◌+◌, ◌*◌, ◌-◌, ℤ, pos, nat_abs, length, get_or}
use Rattle.std.proofs.Math.Path.{refl, ap, ap₂}
use Rattle.std.proofs.Common.{sym, ◌∙◌, le_of_eq, arith, leb-true}
use mathlib.Core.List.{List, ◌++◌, map}
use Rattle.std.proofs.Math.ListN.{length-append, length-map}
use Rattle.std.proofs.Math.Seq.{take_all}
use Rattle.whole.specs.Int.{abs_le_to}
use Rattle.whole.specs.Below.{Below}
use Rattle.whole.specs.BelowLaws.{below_part}
use Rattle.whole.specs.Parts.{part_length, part_piece, part_last, part_second, parts_join}
use Rattle.whole.specs.Twos.{InBits, signed, twos}
use Rattle.whole.specs.TwosLaws.{twos_all_below}
use Rattle.whole.specs.EveryLaws.{every_at}
use Rattle.rounding.specs.Tests.{z_passes}
use Rattle.packing.specs.Digits.{bytes_for, packed, unpacked}
use Rattle.packing.specs.Laws.{packed_length, unpacked_length, unpacked_below, unpacked_packed, packed_unpacked_whole}
use Rattle.packing.specs.Twos.{AllInBits, signed_twos_all, twos_signed_all}
use Rattle.sets.specs.declared.Numbers.{Numbers}
use Rattle.sets.specs.Good.{Good}
use Rattle.records.specs.Layout.{mark, marked, stretch, z_bytes, signature_bytes}
use Rattle.sets.specs.Limits.{seed_bytes}
use Rattle.signatures.specs.Signature.{signature_record, z_of, challenge_of, z_in_range}
use Rattle.records.specs.PublicLaws.{marked_mark, marked_front}

-- ---- the range of z

-- |z| at most B − S is in the range of z's width
passes_inside : (s : Numbers) → Good s → (z : ℤ) → z_passes (s.b - s.s) z ≡ true → InBits s.z_bits z
unfolding z_passes
passes_inside s good z e =
    let m = abs_le_to z (s.b - s.s) (leb-true (nat_abs z) (s.b - s.s) e) in
    record { above = omega (arith, good.z_fits); below = omega (arith, good.z_fits) }

-- and so are all of them
pub z_in_range_inside : (s : Numbers) (z : List ℤ) → Good s → z_in_range s z ≡ true → AllInBits s.z_bits z
unfolding z_in_range
z_in_range_inside s z good e =
    record { at = λ i l. passes_inside s good (get_or z i (pos 0)) (every_at (z_passes (s.b - s.s)) z i (pos 0) e l) }

-- ---- lengths

module _ (s : Numbers) where
  pub packed_z_length : (z : List ℤ) → length z ≡ s.n → length (packed s.z_bits (map (twos s.z_bits) z)) ≡ z_bytes s
  packed_z_length z e =
      packed_length s.z_bits (map (twos s.z_bits) z) ∙ ap (bytes_for s.z_bits) (length-map z (twos s.z_bits) ∙ e)

  pub signature_record_length : (z : List ℤ) (c' : List ℕ) → length z ≡ s.n → length c' ≡ seed_bytes
      → length (signature_record s z c') ≡ signature_bytes s
  unfolding signature_record
  signature_record_length z c' e f =
      omega (arith, length-append (packed s.z_bits (map (twos s.z_bits) z)) c', packed_z_length z e)

  pub z_of_length : (signature : List ℕ) → length (z_of s signature) ≡ s.n
  unfolding z_of
  z_of_length signature =
      length-map (unpacked s.z_bits s.n (stretch 2 (z_bytes s) signature)) (signed s.z_bits)
      ∙ unpacked_length s.z_bits s.n (stretch 2 (z_bytes s) signature)

  pub challenge_of_length : (signature : List ℕ) → length signature ≡ signature_bytes s → length (challenge_of s signature) ≡ seed_bytes
  unfolding challenge_of
  challenge_of_length signature e = part_length (2 + z_bytes s) seed_bytes signature (omega arith)

-- ---- what is written reads back

module _ (s : Numbers) (z : List ℤ) (c' : List ℕ) where
  pub signature_marked : marked s 3 (signature_record s z c') ≡ true
  unfolding signature_record
  signature_marked = marked_mark s 3 (packed s.z_bits (map (twos s.z_bits) z) ++ c')

  module _ (long : length z ≡ s.n) where
    -- packed z
    pub signature_stretch : stretch 2 (z_bytes s) (signature_record s z c') ≡ packed s.z_bits (map (twos s.z_bits) z)
    unfolding signature_record
    signature_stretch =
        part_piece 2 (z_bytes s) (mark s 3) (packed s.z_bits (map (twos s.z_bits) z)) c' refl (packed_z_length s z long)

    pub signature_challenge : length c' ≡ seed_bytes → challenge_of s (signature_record s z c') ≡ c'
    unfolding challenge_of signature_record
    signature_challenge e =
        part_second 2 (z_bytes s) seed_bytes (mark s 3) _ refl
        ∙ part_last (z_bytes s) seed_bytes (packed s.z_bits (map (twos s.z_bits) z)) c' (packed_z_length s z long) e

    module _ (good : Good s) (inside : z_in_range s z ≡ true) where
      pub signature_z : z_of s (signature_record s z c') ≡ z
      unfolding z_of
      signature_z =
          ap (λ (bytes : List ℕ). map (signed s.z_bits) (unpacked s.z_bits s.n bytes)) signature_stretch
          ∙ ap (λ (n : ℕ). map (signed s.z_bits) (unpacked s.z_bits n (packed s.z_bits (map (twos s.z_bits) z))))
          (sym (length-map z (twos s.z_bits) ∙ long))
          ∙ ap (map (signed s.z_bits))
          (unpacked_packed s.z_bits (map (twos s.z_bits) z) (twos_all_below s.z_bits z))
          ∙ signed_twos_all s.z_bits z (omega (arith, good.z_byte)) (z_in_range_inside s z good inside)

-- ---- what reads is what would be written

module _ (s : Numbers) (good : Good s) (signature : List ℕ) (bytes : Below 256 signature) (long : length signature ≡ signature_bytes s) where
  -- z packed again
  pub packed_z_of : packed s.z_bits (map (twos s.z_bits) (z_of s signature)) ≡ stretch 2 (z_bytes s) signature
  unfolding z_of
  packed_z_of =
      ap (packed s.z_bits)
      (twos_signed_all s.z_bits (unpacked s.z_bits s.n (stretch 2 (z_bytes s) signature)) (omega (arith, good.z_byte))
      (unpacked_below s.z_bits s.n (stretch 2 (z_bytes s) signature)))
      ∙ packed_unpacked_whole s.z_bits s.n (stretch 2 (z_bytes s) signature)
      (below_part 256 2 (z_bytes s) signature bytes)
      (ap (λ (n : ℕ). 8 * n) (part_length 2 (z_bytes s) signature (omega arith)) ∙ whole)
    where
      -- a polynomial fills its stretch
      whole : 8 * z_bytes s ≡ s.z_bits * s.n
      whole = omega (arith, good.z_whole)

  pub signature_again : marked s 3 signature ≡ true → signature_record s (z_of s signature) (challenge_of s signature) ≡ signature
  unfolding signature_record challenge_of
  signature_again e =
      ap₂ ◌++◌ (marked_front s 3 signature (omega arith) e)
      (ap (λ (p : List ℕ). p ++ stretch (2 + z_bytes s) seed_bytes signature) packed_z_of ∙ parts_join 2 (z_bytes s) seed_bytes signature)
      ∙ parts_join 0 2 (z_bytes s + seed_bytes) signature
      ∙ take_all (signature_bytes s) signature (le_of_eq long)
