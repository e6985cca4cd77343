-- As many are drawn as are needed, for every set of numbers that is good:
--     values_length, positions_length     what the candidate rules give, where that many candidates are there
--     all_a_length                        a_1..a_k together are k · n values
--     a_of_length                         each a_i is n values
--     y_of_length                         y is n values
--     enc_of_length                       c is h positions with signs
--     enc_terms                           the same of the two lists that hold it, with what else is known of them
--     enc_of_total                        as a polynomial c has at most h entries ±1
-- They stand here, and not among the laws of specs/, since an edit that turns a candidate rule's count takes them all with it.
-- Assumes nothing.
use Rattle.std.specs.Prelude.{◌≡◌, ℕ, ◌+◌, ◌*◌, ◌≤◌, ◌<◌, ℤ, nat_abs, length}
use Rattle.std.proofs.Common.{◌∙◌, arith}
use mathlib.Core.List.{List, [], ◌++◌}
use Rattle.std.proofs.Math.ListN.{length-map}
use Rattle.whole.specs.Sum.{total}
use Rattle.whole.specs.Parts.{part_length}
use Rattle.whole.specs.Rows.{row_within}
use Rattle.shake.specs.Shake256.{shake256}
use Rattle.sets.specs.declared.Numbers.{Numbers}
use Rattle.sets.specs.Good.{Good}
use Rattle.sampling.specs.Candidates.{candidates}
use Rattle.sampling.specs.Values.{values, less_of}
use Rattle.sampling.specs.Positions.{Drawn, positions_of, signs_of, AreDrawn, polynomial_of}
use Rattle.sets.specs.Marks.{stream_mark}
use Rattle.sampling.specs.Streams.{stream, two_bytes, all_a, a_of, y_of, enc_of}
use Rattle.sampling.specs.Asks.{Terms}
use Rattle.sampling.specs.CandidatesLaws.{candidates_length}
use Rattle.sampling.specs.PositionsLaws.{drawn_length}
use Rattle.sampling.specs.SparseLaws.{sparse_total}
use Rattle.std.proofs.Common.{le_antisymm}
use Rattle.sampling.specs.Values.{values}
use Rattle.sampling.specs.Positions.{positions}
use Rattle.sampling.specs.ValuesLaws.{part_most, part_enough, values_part}
use Rattle.sampling.specs.PositionsLaws.{part_positions_most, part_positions_enough, positions_part}
use Rattle.sampling.specs.StreamsLaws.{held_stream, drawn_y, drawn_enc, enc_of_signed}

-- ---- the candidate rules

pub values_length : (range need : ℕ) (cs : List ℕ) → need ≤ length cs → length (values range need cs) ≡ need
values_length range need cs h =
    rw (values_part range need cs) (le_antisymm (part_most range need 0 cs) (omega (arith, part_enough range need 0 cs (omega arith))))

pub positions_length : (n need : ℕ) (ps : List ℕ) (cs : List Drawn) → need ≤ length cs → length (positions n need ps cs) ≡ need
positions_length n need ps cs h =
    rw (positions_part n need ps cs) (le_antisymm (part_positions_most n need 0 ps cs) (omega (arith, part_positions_enough n need 0 ps cs (omega arith))))

-- ---- the streams

drawn_enough : (range need size bits m : ℕ) (message : List ℕ) → 0 < size → need ≤ m
    → length (values range need (candidates size bits (shake256 message (size * m)))) ≡ need
drawn_enough range need size bits m message h l =
    values_length range need (candidates size bits (shake256 message (size * m)))
    (omega (arith, candidates_length size bits (shake256 message (size * m)), held_stream size m message h))

module _ (s : Numbers) (g : Good s) where
  pub all_a_length : (seed_a : List ℕ) → length (all_a s seed_a) ≡ s.k * s.n
  unfolding all_a
  all_a_length seed_a = drawn_enough s.q (s.k * s.n) 4 s.t_bits (4 * (s.k * s.n)) (stream_mark s.digit 1 ++ seed_a) (omega arith) (omega arith)

  pub a_of_length : (seed_a : List ℕ) (i : ℕ) → i < s.k → length (a_of s seed_a i) ≡ s.n
  unfolding a_of
  a_of_length seed_a i h =
      part_length (s.n * i) s.n (all_a s seed_a) (row_within s.n s.k i (all_a s seed_a) (all_a_length seed_a) h)

  pub y_of_length : (rand : List ℕ) (counter : ℕ) → length (y_of s rand counter) ≡ s.n
  unfolding y_of
  y_of_length rand counter =
      length-map (drawn_y s rand counter) (less_of s.b)
      ∙ drawn_enough (2 * s.b + 1) s.n 3 s.z_bits (2 * s.n) (stream_mark s.digit 2 ++ (rand ++ two_bytes counter)) (omega arith) (omega arith)

  pub enc_of_length : (c' : List ℕ) → length (enc_of s c') ≡ s.h
  unfolding enc_of
  enc_of_length c' =
      positions_length s.n s.h [] (drawn_enc s c') (omega (arith, g.h_drawn, drawn_length s.position_bits (stream s 7 c' (3 * 256)), held_stream 3 256 (stream_mark s.digit 7 ++ c') (omega arith)))

  -- as two lists
  pub enc_terms : (c' : List ℕ) {ps : List ℕ} {ss : List ℤ} → AreDrawn (enc_of s c') ps ss → Terms s ps ss
  enc_terms c' d =
      rw (d.places_are, d.signs_are)
      (record { signed = enc_of_signed s g c'; few = length-map (enc_of s c') (λ (t : Drawn). t.position) ∙ enc_of_length c' })

  pub enc_of_total : (c' : List ℕ) → total s.n (λ i. nat_abs (polynomial_of (enc_of s c') i)) ≤ s.h
  enc_of_total c' =
      omega (
        arith,
        sparse_total s.n s.n (positions_of (enc_of s c')) (signs_of (enc_of s c')) (enc_of_signed s g c'),
        length-map (enc_of s c') (λ (t : Drawn). t.position),
        enc_of_length c',
      )
