-- The steps of reading and writing a signature record: what each call asks, and what the record, z, c' and the bits of z are after it.
-- Assumes nothing.
use mathlib.Core.Path.{◌≡◌, refl, sym, ap, ◌∙◌}
use mathlib.Core.Bool.{Bool}
use mathlib.Core.List.{List, ◌++◌, map, append_assoc}
use Prim.Native.Nat.{ℕ, ◌+◌, ◌-◌, ◌^◌, ◌<◌}
use native.Mathlib.Omega.{arith}
use native.Mathlib.Nat.{add-sub_cancel_left}
use lib.IntN.{ℤ}
use lib.ListN.{length, take, drop, length-drop, length-map}
use borrow.Author.Tests.{eqb-true}
use Rattle.whole.specs.Below.{Below}
use Rattle.whole.specs.Parts.{part_length}
use Rattle.whole.specs.Written.{written_length, lent_rest, put_rest}
use Rattle.whole.specs.Every.{every}
use Rattle.whole.specs.Twos.{signed, twos}
use Rattle.whole.specs.TwosLaws.{twos_all_below}
use Rattle.answers.specs.ResultLaws.{passed_ok}
use Rattle.answers.specs.Tests.{Answered, AllPass}
use Rattle.rounding.specs.Tests.{z_passes}
use Rattle.packing.specs.Digits.{bytes_for, packed, unpacked, Packs, Unpacks}
use Rattle.packing.specs.Laws.{packed_length, unpacked_length, unpacked_below}
use Rattle.packing.specs.Twos.{ToBits, FromBits}
use Rattle.sets.specs.declared.Numbers.{Numbers}
use Rattle.sets.specs.Good.{Good}
use Rattle.sets.specs.GoodLaws.{n_few, z_narrow}
use Rattle.sets.specs.SetI.{set_i, good_i}
use Rattle.records.specs.Layout.{mark, stretch, z_bytes}
use Rattle.records.specs.Pieces.{Standing, standing_mark, standing_next, standing_copy, standing_all}
use Rattle.signatures.specs.Signature.{signature_record, z_bits_of, z_of, challenge_of, z_in_range, signature_tests, read_signature_tests, write_signature_tests}
use Rattle.signatures.specs.Asks.{RangesBits, ScansZ, TakesSignature, WritesPieces, PutsSignature, WritesChecked}
use Rattle.signatures.specs.Laws.{z_in_range_inside}

-- ---- the bits of z

z_wide : {s : Numbers} → Good s → 0 < s.z_bits
z_wide good = omega (arith, good.z_byte)

module _ {s : Numbers} {bits signature : List ℕ} {len : ℕ} (r : ScansZ s signature bits) (e : len ≡ z_bytes s) where
  pub bits_unpack : Unpacks s.z_bits (take (2 + len - 2) (drop 2 signature)) bits
  bits_unpack =
      record {
        wide = r.good.z_byte;
        narrow = omega (arith, z_narrow r.good);
        exact = rw (add-sub_cancel_left 2 len) (part_length 2 len signature (omega (arith, r.signature_long))) ∙ e ∙ ap (bytes_for s.z_bits) (sym r.scratch_long);
      }

  pub bits_are : {new : List ℕ} → new ≡ unpacked s.z_bits (length bits) (take (2 + len - 2) (drop 2 signature)) → new ≡ z_bits_of s signature
  unfolding z_bits_of
  bits_are g = g ∙ rw (add-sub_cancel_left 2 len, e, r.scratch_long)

module _ (s : Numbers) (signature : List ℕ) {bits : List ℕ} (e : bits ≡ z_bits_of s signature) where
  bits_below : Below (2 ^ s.z_bits) bits
  unfolding z_bits_of
  bits_below = rw e (unpacked_below s.z_bits s.n _)

  bits_long : length bits ≡ s.n
  unfolding z_bits_of
  bits_long = rw e (unpacked_length s.z_bits s.n _)

  -- what testing them asks
  pub scan_asked : Good s → RangesBits s.z_bits bits
  scan_asked good = record { wide = z_wide good; narrow = z_narrow good; below = bits_below }

  -- z of its bits
  pub bits_asked : {z : List ℤ} → Good s → length z ≡ s.n → FromBits s.z_bits bits z
  bits_asked good l =
      record {
        wide = z_wide good;
        narrow = z_narrow good;
        below = bits_below;
        exact = l ∙ sym bits_long;
      }

  pub z_are : {z : List ℤ} → z ≡ map (signed s.z_bits) bits → z ≡ z_of s signature
  unfolding z_of z_bits_of
  z_are f = f ∙ ap (map (signed s.z_bits)) e

  pub range_of_bits : {bound : ℕ} {r : Bool} → r ≡ every (z_passes bound) (map (signed s.z_bits) bits) → bound ≡ s.b - s.s → r ≡ z_in_range s (z_of s signature)
  unfolding z_in_range z_of z_bits_of
  range_of_bits g f = g ∙ rw (f, e)

-- ---- writing

module _ {s : Numbers} {bits c' old : List ℕ} (p : WritesPieces s bits c' old) where
  -- the mark stands
  pub mark_stands : {one : List ℕ} → one ≡ mark s 3 ++ drop 2 old → Standing 2 (mark s 3) old one
  mark_stands e = standing_mark s 3 old (omega (arith, p.signature_long)) e

  module _ {one : List ℕ} (w : Standing 2 (mark s 3) old one) where
    pub pack_asked : Packs s.z_bits bits (take (length one - 2) (drop 2 one))
    pack_asked =
        record {
          wide = p.good.z_byte;
          narrow = omega (arith, z_narrow p.good);
          below = p.bits_below;
          few = omega (arith, p.bits_long, n_few p.good);
          room = rw (lent_rest, p.bits_long) (omega (arith, length-drop 2 one, written_length w.written, p.signature_long));
        }

    -- z follows it
    pub z_stands : {ys : List ℕ}
        → ys ≡ packed s.z_bits bits ++ drop (bytes_for s.z_bits (length bits)) (take (length one - 2) (drop 2 one))
        → Standing (2 + z_bytes s) (mark s 3 ++ packed s.z_bits bits) old (take 2 one ++ (ys ++ drop (length one - 2) (drop 2 one)))
    z_stands e =
        standing_next w (packed s.z_bits bits) refl (packed_length s.z_bits bits ∙ ap (bytes_for s.z_bits) p.bits_long)
        (omega (arith, p.signature_long))
        (put_rest 2 (bytes_for s.z_bits (length bits)) one (packed s.z_bits bits) e ∙ rw p.bits_long)

  -- and c' is the rest
  pub all_stands : {two three : List ℕ} {len : ℕ} → Standing (2 + z_bytes s) (mark s 3 ++ packed s.z_bits bits) old two → len ≡ z_bytes s
      → three ≡ take (2 + len) two ++ (c' ++ drop (2 + len + length c') two) → three ≡ mark s 3 ++ (packed s.z_bits bits ++ c')
  all_stands w e f =
      standing_all (standing_copy w c' (ap (λ (n : ℕ). 2 + n) e) p.c_long (omega (arith, p.signature_long)) f) (omega (arith, p.signature_long))
      ∙ append_assoc (mark s 3) (packed s.z_bits bits) c'

module _ {s : Numbers} {z : List ℤ} {c' signature scratch : List ℕ} (p : WritesChecked s z c' signature scratch) where
  pub z_asked : ToBits s.z_bits z scratch
  z_asked =
      record {
        wide = z_wide p.good;
        narrow = z_narrow p.good;
        inside = z_in_range_inside s z p.good p.z_inside;
        exact = p.scratch_long ∙ sym p.z_long;
      }

  module _ {bits : List ℕ} (e : bits ≡ map (twos s.z_bits) z) where
    pub pieces_asked : WritesPieces s bits c' signature
    pieces_asked =
        record {
          good = p.good;
          bits_long = rw e (length-map z (twos s.z_bits) ∙ p.z_long);
          bits_below = rw e (twos_all_below s.z_bits z);
          c_long = p.c_long;
          signature_long = p.signature_long;
        }

    pub record_is : {new : List ℕ} → new ≡ mark s 3 ++ (packed s.z_bits bits ++ c') → new ≡ signature_record s z c'
    unfolding signature_record
    record_is f = f ∙ rw e

-- values and a record that pass the tests
pub write_puts : {s : Numbers} {z : List ℤ} {c' signature : List ℕ}
    → Answered (write_signature_tests s z c' (length signature)) 0 → PutsSignature s z c' signature
unfolding write_signature_tests AllPass every
write_puts a =
    let p = passed_ok a refl in
    record {
      z_long = eqb-true _ _ p.0;
      z_inside = p.1.1.1.0;
      c_long = eqb-true _ _ p.1.0;
      signature_long = eqb-true _ _ p.1.1.0;
    }

-- ---- taking the values

-- a record that is read has its length, and so have the outputs
pub read_takes : {s : Numbers} {signature : List ℕ} {z : List ℤ} {c' : List ℕ}
    → Answered (read_signature_tests s signature (length z) (length c')) 0 → TakesSignature s signature z c'
unfolding read_signature_tests signature_tests AllPass every
read_takes a =
    let p = passed_ok a refl in
    record {
      signature_long = eqb-true _ _ p.1.1.0;
      z_long = eqb-true _ _ p.0;
      c_long = eqb-true _ _ p.1.0;
    }

pub take_c : {s : Numbers} {signature c' new : List ℕ} {z : List ℤ} {len : ℕ} → TakesSignature s signature z c'
    → len ≡ z_bytes s → new ≡ stretch (2 + len) (length c') signature → new ≡ challenge_of s signature
unfolding challenge_of
take_c p e f = f ∙ rw (p.c_long, e)

-- ---- set I

module _ {s : Numbers} (e : s ≡ set_i) where
  pub writes_i : {z : List ℤ} {c' signature scratch : List ℕ} → PutsSignature s z c' signature → length scratch ≡ 1024
      → WritesChecked s z c' signature scratch
  writes_i p l =
      record {
        good = good_i e;
        z_long = p.z_long;
        z_inside = p.z_inside;
        c_long = p.c_long;
        signature_long = p.signature_long;
        scratch_long = rw e l;
      }
