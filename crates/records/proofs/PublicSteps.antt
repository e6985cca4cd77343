-- The steps of reading and writing a public record: one t_i in its own stretch, then all of them, then the record.
-- Assumes nothing.
use mathlib.Core.Path.{◌≡◌, refl, sym, ap, ap₂, ◌∙◌}
use mathlib.Core.Bool.{true, false}
use mathlib.Core.List.{List, ◌++◌, append-nil, append_assoc}
use Prim.Native.Nat.{ℕ, ◌+◌, ◌*◌, ◌-◌, ◌≤◌, ◌<◌}
use native.Mathlib.Nat.{mul_comm}
use native.Mathlib.Numerals.{add-one}
use native.Mathlib.Omega.{arith}
use lib.Dec.{ltb}
use lib.ListN.{length, take, drop, length-append}
use lib.Seq.{length-take-le}
use borrow.Author.Tests.{eqb-true}
use Rattle.whole.specs.Every.{every, each_below}
use Rattle.whole.specs.EveryLaws.{every_joined, each_below_all, each_below_fails}
use Rattle.whole.specs.RowFill.{Filling, filling_none, filling_more, filling_all}
use Rattle.whole.specs.Table.{joined}
use Rattle.whole.specs.TableLaws.{joined_length}
use Rattle.whole.specs.Written.{Written, written_kept, written_length, written_more}
use Rattle.answers.specs.ResultLaws.{passed_ok}
use Rattle.answers.specs.Tests.{Answered, AllPass}
use Rattle.packing.specs.Digits.{packed}
use Rattle.sets.specs.declared.Numbers.{Numbers}
use Rattle.sets.specs.Good.{Good}
use Rattle.sets.specs.Known.{Known, known_good}
use Rattle.records.specs.ChunksLaws.{Comes}
use Rattle.records.specs.Layout.{t_bytes, polynomial, mark}
use Rattle.records.specs.Pieces.{standing_mark, standing_next, standing_copy, standing_all}
use Rattle.records.specs.Public.{t_of, all_t, t_in_range, packed_t, public_record, seed_a_of, public_tests, read_public_tests, write_public_tests}
use Rattle.records.specs.Asks.{PacksT, ReadsAllT, PacksAllT, PutsPublic, TakesPublic}
use Rattle.records.specs.SizeLaws.{stretch_fits}
use Rattle.records.specs.PublicLaws.{t_of_length, polynomial_length, polynomial_below, packed_t_length_lem, packed_t_length, t_in_range_below}

-- ---- the range of t_1..t_k

each_range : (s : Numbers) (public : List ℕ) → t_in_range s (all_t s public) ≡ each_below s.k (λ j. t_in_range s (t_of s public j))
unfolding t_in_range all_t
each_range s public = every_joined (λ v. ltb v s.q) s.k (t_of s public)

-- the first i are in range, and there are no more; or t_(i + 1) is not
module _ (s : Numbers) (public : List ℕ) {i : ℕ} where
  pub all_in_range : s.k ≤ i → ((j : ℕ) → j < i → t_in_range s (t_of s public j) ≡ true) → true ≡ t_in_range s (all_t s public)
  all_in_range l h = sym (each_range s public ∙ each_below_all s.k (λ j. t_in_range s (t_of s public j)) (λ j m. h j (omega arith)))

  pub one_outside : i < s.k → t_in_range s (t_of s public i) ≡ false → false ≡ t_in_range s (all_t s public)
  one_outside l h = sym (each_range s public ∙ each_below_fails s.k i (λ j. t_in_range s (t_of s public j)) l h)

-- ---- t_1..t_k are read

-- t_1..t_i stand in t
abbrev pub ReadingT : Numbers → List ℕ → List ℕ → List ℕ → ℕ → Type 0
ReadingT s public old t i = Filling s.n s.k (t_of s public) old t i

module _ {s : Numbers} {public old : List ℕ} (r : ReadsAllT s public old) where
  each : (i : ℕ) → i < s.k → length (t_of s public i) ≡ s.n
  each i l = t_of_length s public i

  pub reading_none : ReadingT s public old old 0
  reading_none = filling_none r.room each

  module _ {t : List ℕ} {i : ℕ} (p : ReadingT s public old t i) where
    pub reading_more : {ys : List ℕ} {next : ℕ} → i < s.k → ys ≡ t_of s public i → next ≡ i + 1
        → ReadingT s public old (take (s.n * i) t ++ (ys ++ drop (s.n * i + s.n - s.n * i) (drop (s.n * i) t))) next
    reading_more {ys} l e n = rw n (filling_more r.room each p l ys e)

    pub reading_all : s.k ≤ i → t ≡ all_t s public
    unfolding all_t
    reading_all l = filling_all r.room each p l

-- ---- t_1..t_k are written

-- packed t_(j + 1)
abbrev packed_of : Numbers → List ℕ → ℕ → List ℕ
packed_of s t j = packed s.t_bits (polynomial s.n j t)

piece_size : (s : Numbers) (t : List ℕ) → length t ≡ s.k * s.n → (j : ℕ) → j < s.k → length (packed_of s t j) ≡ t_bytes s
piece_size s t long j l = packed_t_length_lem s (polynomial s.n j t) (polynomial_length s.n s.k j t long l)

-- packed t_1..t_m stand in the record after its mark
pub record WritingT (s : Numbers) (t old public : List ℕ) (m : ℕ) : Type 0 where
  pub near : m ≤ s.k
  pub done : Written (take 2 old ++ joined m (packed_of s t)) old public

module _ {s : Numbers} {t old : List ℕ} (r : PacksAllT s t old) where
  pub writing_none : WritingT s t old old 0
  unfolding joined
  writing_none = record { near = omega arith; done = rw (append-nil (take 2 old)) (written_kept 2 old (omega (arith, r.long))) }

  module _ {public : List ℕ} {m : ℕ} (p : WritingT s t old public m) where
    so_far_written : length (take 2 old ++ joined m (packed_of s t)) ≡ 2 + t_bytes s * m
    so_far_written =
        length-append (take 2 old) (joined m (packed_of s t))
        ∙ ap₂ ◌+◌ (length-take-le 2 old (omega (arith, r.long)))
        (joined_length m (t_bytes s) (packed_of s t) (λ j l. piece_size s t r.polynomials j (omega (arith, p.near))) ∙ mul_comm m (t_bytes s))

    module _ {next i : ℕ} {x : List ℕ} (c : Comes s t m next i x) where
      pub writing_packs : PacksT s x i public
      writing_packs =
          rw c.is
          (record {
            good = r.good;
            polynomial = polynomial_length s.n s.k i t r.polynomials c.inside;
            below = polynomial_below s.q s.n i t r.below;
            inside = c.inside;
            long = written_length p.done ∙ r.long;
          })

      pub writing_more : {new : List ℕ}
          → new ≡ take (2 + t_bytes s * i) public ++ (packed s.t_bits x ++ drop (2 + t_bytes s * i + t_bytes s) public)
          → WritingT s t old new next
      unfolding joined
      writing_more e =
          record {
            near = omega (arith, c.inside, c.counted);
            done =
                rw (c.counted, add-one, ← append_assoc (take 2 old) (joined i (packed_of s t)) (packed_of s t i))
                (written_more (rw c.at p.done) (2 + t_bytes s * i) (t_bytes s) (packed_of s t i) (rw c.at (sym so_far_written))
                (piece_size s t r.polynomials i c.inside) (stretch_fits s old i r.long c.inside) (rw c.is at e));
          }

    pub writing_all : m ≡ s.k → public ≡ take 2 old ++ (packed_t s t ++ drop (2 + s.k * t_bytes s) old)
    unfolding packed_t
    writing_all e =
        rw (← e)
        (p.done.is
        ∙ ap (λ (a : ℕ). (take 2 old ++ joined m (packed_of s t)) ++ drop a old) (so_far_written ∙ ap (λ (a : ℕ). 2 + a) (mul_comm (t_bytes s) m))
        ∙ append_assoc (take 2 old) (joined m (packed_of s t)) (drop (2 + m * t_bytes s) old))

-- ---- reading

-- a record that is read has its length, and so have the outputs
pub read_takes : {s : Numbers} {public t seed_a : List ℕ} → Known s
    → Answered (read_public_tests s public (length t) (length seed_a)) 0 → TakesPublic s public t seed_a
unfolding read_public_tests public_tests AllPass every
read_takes k a =
    let p = passed_ok a refl in
    record {
      good = known_good k;
      long = eqb-true _ _ p.1.1.0;
      polynomials = eqb-true _ _ p.0;
      seed = eqb-true _ _ p.1.0;
    }

-- seed_a of a record
pub read_seed : {s : Numbers} {public t seed_a new : List ℕ} {at : ℕ} → TakesPublic s public t seed_a → at ≡ 2 + s.k * t_bytes s
    → new ≡ take (length seed_a) (drop at public) → new ≡ seed_a_of s public
unfolding seed_a_of
read_seed p e f = f ∙ rw (p.seed, e)

-- ---- writing

module _ {s : Numbers} {t seed_a old : List ℕ} (p : PutsPublic s t seed_a old) where
  -- the mark, t and seed_a one after the other
  pub put_is : {marks packs new : List ℕ} {at : ℕ}
      → marks ≡ mark s 1 ++ drop 2 old
      → packs ≡ take 2 marks ++ (packed_t s t ++ drop (2 + s.k * t_bytes s) marks)
      → at ≡ 2 + s.k * t_bytes s
      → new ≡ take at packs ++ (seed_a ++ drop (at + length seed_a) packs)
      → new ≡ public_record s t seed_a
  unfolding public_record
  put_is e f g h =
      let w₁ = standing_next (standing_mark s 1 old (omega (arith, p.long)) e) (packed_t s t) refl (packed_t_length s t p.polynomials) (omega (arith, p.long)) f in
      let w₂ = standing_copy w₁ seed_a g p.seed (omega (arith, p.long)) h in
      standing_all w₂ (omega (arith, p.long)) ∙ append_assoc (mark s 1) (packed_t s t) seed_a

-- values and a record that pass the tests
pub write_puts : {s : Numbers} {t seed_a public : List ℕ} → Good s
    → Answered (write_public_tests s t seed_a (length public)) 0 → PutsPublic s t seed_a public
unfolding write_public_tests AllPass every
write_puts {s} {t} good a =
    let p = passed_ok a refl in
    record {
      good = good;
      polynomials = eqb-true _ _ p.0;
      below = t_in_range_below s t p.1.1.1.0;
      seed = eqb-true _ _ p.1.0;
      long = eqb-true _ _ p.1.1.0;
    }
