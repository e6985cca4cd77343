-- What is drawn from the streams, for every set of numbers that is good:
--     shake_length                        n bytes of SHAKE256 are n
--     all_a_below                         the values of a_1..a_k are below q
--     y_of_size                           each of y is at most b in size
--     enc_of_signed, enc_of_distinct      c is different positions below n, each with a sign +1 or −1
--     enc_of_small                        as a polynomial its entries are ±1 or 0
-- That there are as many as are needed: proofs/DrawnLengths.
-- Assumes nothing.
use Rattle.std.specs.Prelude.{◌≡◌, ℕ, zero, suc, ◌+◌, ◌*◌, ◌/◌, ◌^◌, ◌≤◌, ◌<◌, pos, nat_abs, ◌-ℤ◌, length, get_or}
use Rattle.std.proofs.Math.Path.{sym}
use Rattle.std.proofs.Common.{ap, ◌∙◌, subst, zero-le, arith}
use mathlib.Core.List.{List, [], ◌∷◌, ◌++◌, map}
use Rattle.std.proofs.Math.Nat.{mul-div_right}
use Rattle.std.proofs.Math.ListN.{length-map}
use Rattle.whole.specs.Int.{minus_is, abs_le_from}
use Rattle.whole.specs.Below.{Below}
use Rattle.whole.specs.BelowLaws.{below_tail, below_more}
use Rattle.whole.specs.TableLaws.{length_table}
use Rattle.shake.specs.Shake256.{shake256}
use Rattle.ring.specs.Sparse.{Signed, Sign}
use Rattle.sets.specs.declared.Numbers.{Numbers}
use Rattle.sets.specs.Good.{Good}
use Rattle.sampling.specs.Candidates.{held, candidates}
use Rattle.sampling.specs.Values.{values}
use Rattle.sampling.specs.Positions.{Drawn, drawn_candidates, positions_of, signs_of, polynomial_of}
use Rattle.sampling.specs.Streams.{stream, two_bytes, all_a, y_of, enc_of}
use Rattle.sampling.specs.CandidatesLaws.{candidates_below}
use Rattle.sampling.specs.ValuesLaws.{values_below}
use Rattle.sampling.specs.FreeLaws.{Distinct}
use Rattle.sampling.specs.PositionsLaws.{positions_inside, positions_signs, positions_distinct, drawn_inside, drawn_signs}
use Rattle.sampling.specs.SparseLaws.{sparse_small}

-- ---- SHAKE256

pub shake_length : (message : List ℕ) (n : ℕ) → length (shake256 message n) ≡ n
unfolding shake256
shake_length message n = length_table n _

-- a stream holds as many candidates as it was made for
pub held_stream : (size m : ℕ) (message : List ℕ) → 0 < size → held size (shake256 message (size * m)) ≡ m
held_stream size m message h = ap (λ (k : ℕ). k / size) (shake_length message (size * m)) ∙ mul-div_right m h

pub drawn_below : (range need size bits : ℕ) (bytes : List ℕ) → 2 ^ bits ≤ 2 * range → Below range (values range need (candidates size bits bytes))
drawn_below range need size bits bytes h =
    values_below range need (candidates size bits bytes) (below_more (candidates size bits bytes) h (candidates_below size bits bytes))

-- a value from 0 to 2b, less b
pub less_small : (b v : ℕ) → v ≤ 2 * b → nat_abs (pos v -ℤ pos b) ≤ b
less_small b v h = abs_le_from (pos v -ℤ pos b) b (omega (arith, minus_is (pos v) (pos b))) (omega (arith, minus_is (pos v) (pos b)))

less_size : (b : ℕ) (vs : List ℕ) (i : ℕ) → Below (2 * b + 1) vs → nat_abs (get_or (map (λ (v : ℕ). pos v -ℤ pos b) vs) i (pos 0)) ≤ b
less_size b [] i h = zero-le
less_size b (v ∷ vs) zero h = less_small b v (omega (arith, h.at 0 (omega arith)))
less_size b (v ∷ vs) (suc i) h = less_size b vs i (below_tail h)

-- the values drawn for y, and the candidates for c
abbrev pub drawn_y : Numbers → List ℕ → ℕ → List ℕ
drawn_y s rand counter = values (2 * s.b + 1) s.n (candidates 3 s.z_bits (stream s 2 (rand ++ two_bytes counter) (3 * (2 * s.n))))

abbrev pub drawn_enc : Numbers → List ℕ → List Drawn
drawn_enc s c' = drawn_candidates s.position_bits (stream s 7 c' (3 * 256))

module _ (s : Numbers) (g : Good s) where
  -- ---- a

  pub all_a_below : (seed_a : List ℕ) → Below s.q (all_a s seed_a)
  unfolding all_a
  all_a_below seed_a = drawn_below s.q (s.k * s.n) 4 s.t_bits (stream s 1 seed_a (4 * (4 * (s.k * s.n)))) g.t_once

  -- ---- y

  -- past its end y reads 0
  pub y_of_size : (rand : List ℕ) (counter i : ℕ) → nat_abs (get_or (y_of s rand counter) i (pos 0)) ≤ s.b
  unfolding y_of
  y_of_size rand counter i =
      less_size s.b (drawn_y s rand counter) i (drawn_below (2 * s.b + 1) s.n 3 s.z_bits (stream s 2 (rand ++ two_bytes counter) (3 * (2 * s.n))) g.y_once)

  -- ---- c

  drawn_all_inside : (c' : List ℕ) → Below s.n (positions_of (drawn_enc s c'))
  drawn_all_inside c' =
      subst (λ (n : ℕ). Below n (positions_of (drawn_enc s c'))) (sym g.n_power) (drawn_inside s.position_bits (stream s 7 c' (3 * 256)))

  pub enc_of_signed : (c' : List ℕ) → Signed s.n (positions_of (enc_of s c')) (signs_of (enc_of s c'))
  unfolding enc_of
  enc_of_signed c' =
      record {
        paired = length-map (enc_of s c') (λ (t : Drawn). t.sign) ∙ sym (length-map (enc_of s c') (λ (t : Drawn). t.position));
        inside = positions_inside s.n s.h [] (drawn_enc s c') (drawn_all_inside c');
        signs = positions_signs Sign s.n s.h [] (drawn_enc s c') (drawn_signs s.position_bits (stream s 7 c' (3 * 256)));
      }

  pub enc_of_distinct : (c' : List ℕ) → Distinct (positions_of (enc_of s c'))
  unfolding enc_of
  enc_of_distinct c' = positions_distinct s.n s.h [] (drawn_enc s c') (drawn_all_inside c') (omega (arith, g.h_inside))

  pub enc_of_small : (c' : List ℕ) (i : ℕ) → nat_abs (polynomial_of (enc_of s c') i) ≤ 1
  enc_of_small c' = sparse_small s.n (positions_of (enc_of s c')) (signs_of (enc_of s c')) (enc_of_signed c') (enc_of_distinct c')
