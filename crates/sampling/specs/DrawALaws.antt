-- Laws of drawing a_1..a_k one at a time.
--     few_values, few_candidates      the counts fit a word
--     started_a                       the start of stream 1
--     after_a                         the first n values that were left are written
--     left_below                      what is left is below q
--     at_first, at_next               between a_i and a_(i + 1), what is left is what a_(i + 1)..a_k have
--     at_asks, at_written             the next a_i can be drawn there, and it is what is written
-- Assumes nothing.
use Rattle.std.specs.Prelude.{◌≡◌, refl, List, ◌++◌, ℕ, ◌+◌, ◌*◌, ◌-◌, ◌^◌, ◌≤◌, ◌<◌, length, take, drop}
use Rattle.std.proofs.Common.{sym, ◌∙◌, mul-zero, arith, take_at, drop_at, drop-drop}
use Rattle.std.proofs.Math.Path.{ap}
use Rattle.whole.specs.Below.{Below}
use Rattle.whole.specs.Rows.{row_fits, row_next}
use Rattle.shake.specs.declared.Sponge.{Sponge}
use Rattle.shake.specs.Sponge.{absorbed, squeezed}
use Rattle.sets.specs.declared.Numbers.{Numbers}
use Rattle.sets.specs.Good.{Good}
use Rattle.sets.specs.Marks.{fresh}
use Rattle.sets.specs.GoodLaws.{row_few}
use Rattle.sampling.specs.declared.drawn.DrawA.{DrawA}
use Rattle.sampling.specs.Candidates.{candidates}
use Rattle.sampling.specs.Values.{values}
use Rattle.sampling.specs.Streams.{all_a, a_of}
use Rattle.sampling.specs.SpongeLaws.{stream_squeezed}
use Rattle.sampling.specs.DrawA.{values_left, ValidA}
use Rattle.sampling.specs.Asks.{NextA}
use Rattle.sampling.specs.Promises.{StartedA, AfterA}
use Rattle.sampling.specs.StreamsLaws.{drawn_below}

-- ---- counts

pub few_values : (s : Numbers) → Good s → s.k * s.n < 2 ^ 64
few_values s g = omega (arith, row_few g)

pub few_candidates : (s : Numbers) → Good s → 4 * (s.k * s.n) < 2 ^ 64
few_candidates s g = omega (arith, row_few g)

-- ---- the start

pub started_a : {s : Numbers} {seed_a : List ℕ} {s₀ sponge : Sponge} → Good s → Below 256 seed_a → s₀ ≡ fresh s.digit 1 → sponge ≡ absorbed s₀ seed_a
    → StartedA s seed_a (record { sponge = sponge; left = 4 * (s.k * s.n); need = s.k * s.n })
unfolding values_left all_a
started_a {s} {seed_a} g b f e =
    record {
      all =
          ap (λ (l : List ℕ). values s.q (s.k * s.n) (candidates 4 s.t_bits l))
          (ap (squeezed (4 * (4 * (s.k * s.n)))) (rw f at e) ∙ stream_squeezed s.digit 1 seed_a (4 * (4 * (s.k * s.n))) g.digit_fits (omega arith) b);
      valid = record { enough = omega arith };
      need_is = refl;
    }

-- ---- the next a_i

-- what is written and what is left are together what was left before
pub after_a : (s : Numbers) (d : DrawA) (out : List ℕ) (r : DrawA)
    → out ++ values s.q r.need (candidates 4 s.t_bits (squeezed (4 * r.left) r.sponge))
    ≡ values s.q d.need (candidates 4 s.t_bits (squeezed (4 * d.left) d.sponge))
    → length out ≡ s.n → r.need ≤ r.left → r.need ≡ d.need - s.n → AfterA s d out r
unfolding values_left
after_a s d out r e long h f =
    record {
      written = rw (← e) (sym (take_at out rest s.n long));
      rest = rw (← e) (sym (drop_at out rest s.n long));
      valid = record { enough = h };
      need_is = f;
    }
  where
    rest : List ℕ
    rest = values s.q r.need (candidates 4 s.t_bits (squeezed (4 * r.left) r.sponge))

-- what a stream still gives is below q
pub left_below : (s : Numbers) → Good s → (d : DrawA) → Below s.q (values_left s d)
unfolding values_left
left_below s g d =
    drawn_below s.q d.need 4 s.t_bits (squeezed (4 * d.left) d.sponge) g.t_once

-- ---- between a_i and a_(i + 1)

-- a_1..a_i are drawn
pub record AtA (s : Numbers) (seed_a : List ℕ) (i : ℕ) (d : DrawA) : Type 0 where
  pub left_is : values_left s d ≡ drop (s.n * i) (all_a s seed_a)
  pub valid : ValidA d
  pub need_is : d.need + s.n * i ≡ s.k * s.n

pub at_first : {s : Numbers} {seed_a : List ℕ} {d : DrawA} → StartedA s seed_a d → AtA s seed_a 0 d
at_first {s} {seed_a} {d} started =
    record {
      left_is = rw (mul-zero s.n) started.all;
      valid = started.valid;
      need_is = omega (arith, started.need_is, mul-zero s.n);
    }

module _ {s : Numbers} {seed_a : List ℕ} {i : ℕ} {d : DrawA} (a : AtA s seed_a i d) where
  pub at_asks : {places : ℕ} → Good s → i < s.k → places ≡ s.n → NextA s d places
  at_asks g h e =
      record {
        good = g;
        valid = a.valid;
        needed = omega (arith, a.need_is, row_fits s.n s.k i h);
        long = e;
      }

  -- what is written is a_(i + 1)
  pub at_written : {out : List ℕ} {r : DrawA} → AfterA s d out r → out ≡ a_of s seed_a i
  unfolding a_of
  at_written next = next.written ∙ ap (take s.n) a.left_is

  pub at_next : {out : List ℕ} {r : DrawA} → i < s.k → AfterA s d out r → AtA s seed_a (i + 1) r
  at_next h next =
      record {
        left_is =
            rw (row_next s.n i)
            (next.rest ∙ ap (drop s.n) a.left_is ∙ drop-drop s.n (s.n * i) (all_a s seed_a));
        valid = next.valid;
        need_is = omega (arith, next.need_is, a.need_is, row_next s.n i, row_fits s.n s.k i h);
      }
