-- What the entries over a lent stream answer: a test that fails, and what is stored once every test passes.
-- Assumes nothing.
use mathlib.Core.Path.{◌≡◌, refl, sym, ◌∙◌}
use mathlib.Core.List.{List, [], ◌∷◌, map}
use Prim.Native.Nat.{ℕ, ◌+◌, ◌*◌, ◌-◌, ◌≤◌, ◌<◌}
use native.Mathlib.Nat.{sub-zero}
use native.Mathlib.Omega.{arith}
use lib.Dec.{leb, eqb}
use lib.IntN.{ℤ}
use lib.ListN.{length, take, length-map}
use borrow.Author.Tests.{le-leb, lt-leb, eq-eqb, ne_eqb}
use Rattle.answers.specs.Tests.{Test, ◌or_else◌, Answered}
use Rattle.answers.specs.TestLaws.{refused, past, accepted}
use Rattle.answers.specs.OutputLaws.{made, kept}
use Rattle.sets.specs.declared.Numbers.{Numbers}
use Rattle.sampling.specs.Candidates.{held, candidates}
use Rattle.sampling.specs.CandidatesLaws.{candidates_length}
use Rattle.sampling.specs.Values.{values, less_of}
use Rattle.sampling.specs.Positions.{Drawn, positions, drawn_candidates}
use Rattle.sampling.specs.ValuesLaws.{values_part}
use Rattle.sampling.specs.Stretches.{part, part_positions}
use Rattle.sampling.specs.PositionsLaws.{positions_part, drawn_length}
use Rattle.sampling.proofs.DrawnLengths.{values_length, positions_length}
use Rattle.sampling.specs.Stored.{Stored, StoredDrawn, stored_whole}
use Rattle.sampling.specs.Lent.{lent_a, lent_y, tests_enc, lent_enc}
use Rattle.sampling.specs.Promises.{TakesA, TakesY, TakesPositions}
use Rattle.sampling.proofs.ValueSteps.{Kept, kept_values, kept_less}

-- ---- values: one test

too_few : {need many : ℕ} → many < need → Answered ((leb need many or_else 1) ∷ []) 1
too_few {need} {many} h = refused (lt-leb need many h)

enough : {need many : ℕ} → need ≤ many → Answered ((leb need many or_else 1) ∷ []) 0
enough {need} {many} h = past (le-leb need many h) accepted

-- the values of every candidate, with none after them
all_values : {A : Type 0} {g : List ℕ → List A} (kept : Kept g) (range size bits need : ℕ) (stream : List ℕ) {old out : List A} {next : ℕ}
    → length old ≤ held size stream → need ≡ length old
    → Stored (g (part range need 0 (candidates size bits stream))) old 0 out next → out ≡ g (values range (length old) (candidates size bits stream))
all_values {g = g} kept range size bits need stream {old} {out} {next} h e s =
    stored_whole whole (kept.long (values range (length old) cs) ∙ values_length range (length old) cs (omega (arith, candidates_length size bits stream)))
  where
    cs : List ℕ
    cs = candidates size bits stream

    whole : Stored (g (values range (length old) cs)) old 0 out next
    whole = rw (e, ← values_part range (length old) cs) at s

module _ {set : Numbers} {stream : List ℕ} where
  pub takes_a_refused : {out : List ℕ} → held 4 stream < length out → TakesA set stream out out 1
  takes_a_refused h = record { answered = too_few h; values = kept (too_few h) }

  pub takes_a_done : {old new : List ℕ} {next : ℕ} → length old ≤ held 4 stream
      → Stored (part set.q (length old) 0 (candidates 4 set.t_bits stream)) old 0 new next → TakesA set stream old new 0
  unfolding lent_a
  takes_a_done {old} h s =
      record {
        answered = enough h;
        values = made (enough h) (all_values kept_values set.q 4 set.t_bits (length old) stream h refl s);
      }

  pub takes_y_refused : {out : List ℤ} → held 3 stream < length out → TakesY set stream out out 1
  takes_y_refused h = record { answered = too_few h; values = kept (too_few h) }

  pub takes_y_done : {old new : List ℤ} {next : ℕ} → length old ≤ held 3 stream
      → Stored (map (less_of set.b) (part (2 * set.b + 1) (length old - 0) 0 (candidates 3 set.z_bits stream))) old 0 new next
      → TakesY set stream old new 0
  unfolding lent_y
  takes_y_done {old} h s =
      record {
        answered = enough h;
        values = made (enough h) (all_values (kept_less set.b) (2 * set.b + 1) 3 set.z_bits (length old - 0) stream h (sub-zero (length old)) s);
      }

-- ---- positions: three tests

-- there are as many signs
paired : {signs need : ℕ} {ts : List Test} {number : ℕ} → signs ≡ need → Answered ts number → Answered ((eqb signs need or_else 1) ∷ ts) number
paired {signs} {need} e = past (eq-eqb signs need e)

module _ {set : Numbers} {stream ps : List ℕ} {ss : List ℤ} where
  refused_with : Answered (tests_enc set stream (length ps) (length ss)) 1 → TakesPositions set stream ps ss ps ss 1
  refused_with a = record { answered = a; positions = kept a; signs = kept a }

  pub positions_unpaired : (length ss ≡ length ps → ⊥) → TakesPositions set stream ps ss ps ss 1
  positions_unpaired h = refused_with (refused (ne_eqb (length ss) (length ps) h))

  module _ (e : length ss ≡ length ps) where
    pub positions_few : held 3 stream < length ps → TakesPositions set stream ps ss ps ss 1
    positions_few h = refused_with (paired e (refused (lt-leb (length ps) (held 3 stream) h)))

    module _ (h : length ps ≤ held 3 stream) where
      pub positions_many : set.n < length ps → TakesPositions set stream ps ss ps ss 1
      positions_many l = refused_with (paired e (past (le-leb (length ps) (held 3 stream) h) (refused (lt-leb (length ps) set.n l))))

      pub positions_done : {out : List ℕ} {marks : List ℤ} {next : ℕ} → length ps ≤ set.n
          → StoredDrawn (part_positions set.n (length ps - 0) 0 (take 0 ps) (drawn_candidates set.position_bits stream)) ps ss 0 out marks next
          → TakesPositions set stream ps ss out marks 0
      unfolding lent_enc
      positions_done {out} {marks} {next} l t =
          record {
            answered = passed;
            positions = made passed (stored_whole whole.places (long (λ (d : Drawn). d.position)));
            signs = made passed (stored_whole whole.marks (long (λ (d : Drawn). d.sign) ∙ sym e));
          }
        where
          cs : List Drawn
          cs = drawn_candidates set.position_bits stream

          passed : Answered (tests_enc set stream (length ps) (length ss)) 0
          passed = paired e (past (le-leb (length ps) (held 3 stream) h) (past (le-leb (length ps) set.n l) accepted))

          whole : StoredDrawn (positions set.n (length ps) [] cs) ps ss 0 out marks next
          whole = rw (sub-zero (length ps), ← positions_part set.n (length ps) [] cs) at t

          long : {B : Type 0} (f : Drawn → B) → length (map f (positions set.n (length ps) [] cs)) ≡ length ps
          long f =
              length-map (positions set.n (length ps) [] cs) f
              ∙ positions_length set.n (length ps) [] cs (omega (arith, drawn_length set.position_bits stream))
