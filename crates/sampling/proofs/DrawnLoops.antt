-- Where a stream does not run short, a_1..a_k, y and c are what document 000's endless loops draw, whatever candidates would follow (`more`).
-- They stand here, and not among the laws of specs/, since an edit that turns a candidate rule's count takes them with it.
-- Assumes nothing.
use Rattle.std.specs.Prelude.{◌≡◌, ℕ, ◌+◌, ◌*◌, ◌≤◌, length, take}
use Rattle.std.proofs.Math.Path.{ap}
use mathlib.Core.List.{List, [], ◌++◌, map}
use Rattle.sets.specs.declared.Numbers.{Numbers}
use Rattle.sampling.specs.Candidates.{candidates}
use Rattle.sampling.specs.Values.{less_of}
use Rattle.sampling.specs.Positions.{Drawn, drawn_candidates}
use Rattle.sampling.specs.Streams.{stream, two_bytes, all_a, y_of, enc_of}
use Rattle.sampling.specs.Loops.{in_range, untaken}
use Rattle.sampling.specs.LoopsLaws.{values_loop, positions_loop}

module _ (s : Numbers) where
  pub all_a_loop : (seed_a more : List ℕ)
      → let held = candidates 4 s.t_bits (stream s 1 seed_a (4 * (4 * (s.k * s.n)))) in
      s.k * s.n ≤ length (in_range s.q held) → all_a s seed_a ≡ take (s.k * s.n) (in_range s.q (held ++ more))
  unfolding all_a
  all_a_loop seed_a more h = values_loop s.q (s.k * s.n) _ more h

  pub y_of_loop : (rand : List ℕ) (counter : ℕ) (more : List ℕ)
      → let held = candidates 3 s.z_bits (stream s 2 (rand ++ two_bytes counter) (3 * (2 * s.n))) in
      s.n ≤ length (in_range (2 * s.b + 1) held) → y_of s rand counter ≡ map (less_of s.b) (take s.n (in_range (2 * s.b + 1) (held ++ more)))
  unfolding y_of
  y_of_loop rand counter more h = ap (map (less_of s.b)) (values_loop (2 * s.b + 1) s.n _ more h)

  pub enc_of_loop : (c' : List ℕ) (more : List Drawn)
      → let held = drawn_candidates s.position_bits (stream s 7 c' (3 * 256)) in
      s.h ≤ length (untaken [] held) → enc_of s c' ≡ take s.h (untaken [] (held ++ more))
  unfolding enc_of
  enc_of_loop c' more h = positions_loop s.n s.h [] _ more h
