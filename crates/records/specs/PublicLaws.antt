-- Laws of the public record of a good set. What is written reads back: `public_t`, `public_all_t`, `public_seed_a`, `public_marked`; what
-- reads is what would be written: `public_again`. RoundTripLaws states both from the entries' tests.
-- With them, laws of marks and of polynomials in a row, for all records.
-- Assumes nothing.
use Rattle.std.specs.Prelude.{◌≡◌, true, ℕ, ◌+◌, ◌*◌, ◌≤◌, ◌<◌, eqb, ltb, length, get_or, take}
use Rattle.std.proofs.Math.Path.{refl, sym, ap, ap₂}
use Rattle.std.proofs.Common.{◌∙◌, arith, eq-eqb, eqb-true, lt-ltb, ltb-true}
use mathlib.Core.List.{List, [], ◌∷◌, ◌++◌}
use Rattle.std.proofs.Math.ListN.{length-append}
use Rattle.std.proofs.Math.Seq.{take_all}
use Rattle.whole.specs.Below.{Below}
use Rattle.whole.specs.BelowLaws.{below_more, below_part}
use Rattle.whole.specs.Parts.{part_length, part_piece, part_last, part_part, parts_join, part_second}
use Rattle.whole.specs.TableLaws.{joined_ext, joined_length, joined_part, joined_parts}
use Rattle.whole.specs.EveryLaws.{both_first, both_second, every_at, every_all}
use Rattle.whole.specs.Rows.{row_fits, row_within}
use Rattle.packing.specs.Digits.{bytes_for, packed, unpacked}
use Rattle.packing.specs.Laws.{packed_length, unpacked_length, unpacked_packed, packed_unpacked_whole}
use Rattle.sets.specs.declared.Numbers.{Numbers}
use Rattle.sets.specs.Good.{Good}
use Rattle.records.specs.Layout.{mark, marked, stretch, polynomial, t_bytes, public_bytes}
use Rattle.sets.specs.Limits.{seed_bytes}
use Rattle.records.specs.Public.{packed_t, public_record, t_of, all_t, seed_a_of, t_in_range}

-- ---- marks

-- a record that begins with its mark
pub marked_mark : (s : Numbers) (j : ℕ) (rest : List ℕ) → marked s j (mark s j ++ rest) ≡ true
unfolding marked
marked_mark s j rest = eq-eqb (16 * s.digit + j) (16 * s.digit + j) refl

-- a record of at least two bytes that is marked begins with its mark
pub marked_front : (s : Numbers) (j : ℕ) (bytes : List ℕ) → 2 ≤ length bytes → marked s j bytes ≡ true → mark s j ≡ take 2 bytes
unfolding marked
marked_front s j [] h e = absurd (omega arith)
marked_front s j (x ∷ []) h e = absurd (omega arith)
marked_front s j (x ∷ y ∷ bytes) h e =
    ap₂ (λ (a b : ℕ). a ∷ b ∷ [])
    (sym (eqb-true x 0x51 (both_first (eqb x 0x51) (eqb y (16 * s.digit + j)) e)))
    (sym (eqb-true y (16 * s.digit + j) (both_second (eqb x 0x51) (eqb y (16 * s.digit + j)) e)))

-- ---- polynomials in a row

pub polynomial_length : {A : Type 0} (n k i : ℕ) (xs : List A) → length xs ≡ k * n → i < k → length (polynomial n i xs) ≡ n
polynomial_length n k i xs e h = part_length (n * i) n xs (row_within n k i xs e h)

pub polynomial_below : (m n i : ℕ) (xs : List ℕ) → Below m xs → Below m (polynomial n i xs)
polynomial_below m n i xs b = below_part m (n * i) n xs b

-- ---- the range of t

pub t_in_range_below : (s : Numbers) (t : List ℕ) → t_in_range s t ≡ true → Below s.q t
unfolding t_in_range
t_in_range_below s t e = record { at = λ i l. ltb-true (get_or t i 0) s.q (every_at (λ v. ltb v s.q) t i 0 e l) }

pub below_t_in_range : (s : Numbers) (t : List ℕ) → Below s.q t → t_in_range s t ≡ true
unfolding t_in_range
below_t_in_range s t b = every_all (λ v. ltb v s.q) t 0 (λ i l. lt-ltb (get_or t i 0) s.q (b.at i l))

-- ---- lengths

module _ (s : Numbers) where
  -- a packed t_i is one stretch
  pub packed_t_length_lem : (t : List ℕ) → length t ≡ s.n → length (packed s.t_bits t) ≡ t_bytes s
  packed_t_length_lem t e = packed_length s.t_bits t ∙ ap (bytes_for s.t_bits) e

  piece_length : (t : List ℕ) → length t ≡ s.k * s.n
      → (i : ℕ) → i < s.k → length (packed s.t_bits (polynomial s.n i t)) ≡ t_bytes s
  piece_length t e i h = packed_t_length_lem (polynomial s.n i t) (polynomial_length s.n s.k i t e h)

  pub packed_t_length : (t : List ℕ) → length t ≡ s.k * s.n → length (packed_t s t) ≡ s.k * t_bytes s
  unfolding packed_t
  packed_t_length t e = joined_length s.k (t_bytes s) (λ i. packed s.t_bits (polynomial s.n i t)) (piece_length t e)

  pub public_record_length : (t seed_a : List ℕ) → length t ≡ s.k * s.n → length seed_a ≡ seed_bytes → length (public_record s t seed_a) ≡ public_bytes s
  unfolding public_record
  public_record_length t seed_a e f = omega (arith, length-append (packed_t s t) seed_a, packed_t_length t e)

  pub t_of_length : (public : List ℕ) (i : ℕ) → length (t_of s public i) ≡ s.n
  unfolding t_of
  t_of_length public i = unpacked_length s.t_bits s.n (stretch (2 + t_bytes s * i) (t_bytes s) public)

  pub all_t_polynomial : (public : List ℕ) (i : ℕ) → i < s.k → polynomial s.n i (all_t s public) ≡ t_of s public i
  unfolding all_t
  all_t_polynomial public i l = joined_part s.k s.n i (t_of s public) (λ j r. t_of_length public j) l

  pub all_t_length : (public : List ℕ) → length (all_t s public) ≡ s.k * s.n
  unfolding all_t
  all_t_length public = joined_length s.k s.n (t_of s public) (λ i l. t_of_length public i)

  pub seed_a_of_length : (public : List ℕ) → length public ≡ public_bytes s → length (seed_a_of s public) ≡ seed_bytes
  unfolding seed_a_of
  seed_a_of_length public e = part_length (2 + s.k * t_bytes s) seed_bytes public (omega arith)

  -- t_(i + 1) stands in the stretch of all packed t
  stretch_inside : (public : List ℕ) (i : ℕ) → i < s.k
      → stretch (t_bytes s * i) (t_bytes s) (stretch 2 (s.k * t_bytes s) public) ≡ stretch (2 + t_bytes s * i) (t_bytes s) public
  stretch_inside public i l = part_part 2 (s.k * t_bytes s) (t_bytes s * i) (t_bytes s) public (row_fits (t_bytes s) s.k i l)

-- ---- what is written reads back

module _ (s : Numbers) (t seed_a : List ℕ) where
  pub public_marked : marked s 1 (public_record s t seed_a) ≡ true
  unfolding public_record
  public_marked = marked_mark s 1 (packed_t s t ++ seed_a)

  module _ (long : length t ≡ s.k * s.n) where
    -- the stretch whose digest is g
    pub public_packed : stretch 2 (s.k * t_bytes s) (public_record s t seed_a) ≡ packed_t s t
    unfolding public_record
    public_packed = part_piece 2 (s.k * t_bytes s) (mark s 1) (packed_t s t) seed_a refl (packed_t_length s t long)

    -- packed t_(i + 1)
    pub public_stretch : (i : ℕ) → i < s.k
        → stretch (2 + t_bytes s * i) (t_bytes s) (public_record s t seed_a) ≡ packed s.t_bits (polynomial s.n i t)
    unfolding packed_t
    public_stretch i l =
        sym (stretch_inside s (public_record s t seed_a) i l)
        ∙ ap (stretch (t_bytes s * i) (t_bytes s)) public_packed
        ∙ joined_part s.k (t_bytes s) i (λ j. packed s.t_bits (polynomial s.n j t)) (piece_length s t long) l

    pub public_seed_a : length seed_a ≡ seed_bytes → seed_a_of s (public_record s t seed_a) ≡ seed_a
    unfolding seed_a_of public_record
    public_seed_a e =
        part_second 2 (s.k * t_bytes s) seed_bytes (mark s 1) (packed_t s t ++ seed_a) refl
        ∙ part_last (s.k * t_bytes s) seed_bytes (packed_t s t) seed_a (packed_t_length s t long) e

    module _ (good : Good s) (below : Below s.q t) where
      pub public_t : (i : ℕ) → i < s.k → t_of s (public_record s t seed_a) i ≡ polynomial s.n i t
      unfolding t_of
      public_t i l =
          rw (public_stretch i l)
          (ap (λ (n : ℕ). unpacked s.t_bits n (packed s.t_bits (polynomial s.n i t))) (sym (polynomial_length s.n s.k i t long l))
          ∙ unpacked_packed s.t_bits (polynomial s.n i t)
          (below_more (polynomial s.n i t) good.t_fits (polynomial_below s.q s.n i t below)))

      pub public_all_t : all_t s (public_record s t seed_a) ≡ t
      unfolding all_t
      public_all_t =
          joined_ext s.k (t_of s (public_record s t seed_a)) (λ i. polynomial s.n i t) public_t ∙ joined_parts s.k s.n t long

-- ---- what reads is what would be written

module _ (s : Numbers) (good : Good s) where
  -- a polynomial fills its stretch
  pub t_bits_whole : 8 * t_bytes s ≡ s.t_bits * s.n
  t_bits_whole = omega (arith, good.t_whole)

  module _ (public : List ℕ) (bytes : Below 256 public) (long : length public ≡ public_bytes s) where
    stretch_length : (i : ℕ) → i < s.k → length (stretch (2 + t_bytes s * i) (t_bytes s) public) ≡ t_bytes s
    stretch_length i l = part_length (2 + t_bytes s * i) (t_bytes s) public (omega (arith, row_fits (t_bytes s) s.k i l))

    -- t_(i + 1) packed again
    pub packed_t_of : (i : ℕ) → i < s.k → packed s.t_bits (t_of s public i) ≡ stretch (2 + t_bytes s * i) (t_bytes s) public
    unfolding t_of
    packed_t_of i l =
        packed_unpacked_whole s.t_bits s.n (stretch (2 + t_bytes s * i) (t_bytes s) public)
        (below_part 256 (2 + t_bytes s * i) (t_bytes s) public bytes)
        (ap (λ (n : ℕ). 8 * n) (stretch_length i l) ∙ t_bits_whole)

    pub packed_t_all_t : packed_t s (all_t s public) ≡ stretch 2 (s.k * t_bytes s) public
    unfolding packed_t
    packed_t_all_t =
        joined_ext s.k (λ i. packed s.t_bits (polynomial s.n i (all_t s public)))
        (λ i. stretch (t_bytes s * i) (t_bytes s) (stretch 2 (s.k * t_bytes s) public))
        (λ i l. ap (packed s.t_bits) (all_t_polynomial s public i l) ∙ packed_t_of i l ∙ sym (stretch_inside s public i l))
        ∙ joined_parts s.k (t_bytes s) (stretch 2 (s.k * t_bytes s) public)
        (part_length 2 (s.k * t_bytes s) public (omega arith))

    pub public_again : marked s 1 public ≡ true → public_record s (all_t s public) (seed_a_of s public) ≡ public
    unfolding public_record seed_a_of
    public_again e =
        ap₂ ◌++◌ (marked_front s 1 public (omega arith) e)
        (ap (λ (p : List ℕ). p ++ stretch (2 + s.k * t_bytes s) seed_bytes public) packed_t_all_t
        ∙ parts_join 2 (s.k * t_bytes s) seed_bytes public)
        ∙ parts_join 0 2 (s.k * t_bytes s + seed_bytes) public
        ∙ take_all (public_bytes s) public (native.Mathlib.Nat.le_of_eq long)
