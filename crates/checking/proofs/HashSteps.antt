-- The steps of the core: one w_i more, with its scratch, and the last two tests.
--     w_asks, one_more                  the next w_i
--     places_i                          its scratch in set I
--     judged_high, judged_differs, judged_accepts      the answers 10, 11 and 0
-- Assumes nothing.
use mathlib.Core.Path.{◌≡◌, refl, ap, subst, ◌∙◌}
use mathlib.Core.Bool.{Bool, true, false, not}
use mathlib.Core.List.{List}
use lib.IntN.{ℤ}
use lib.ListN.{length}
use Prim.Native.Nat.{ℕ}
use Rattle.whole.specs.Every.{same_bytes}
use Rattle.answers.specs.TestLaws.{refused, past, accepted, holds, misses}
use Rattle.sets.specs.declared.Numbers.{Numbers}
use Rattle.sets.specs.Known.{Known, known_good}
use Rattle.sets.specs.SetI.{set_i}
use Rattle.sampling.specs.declared.drawn.DrawA.{DrawA}
use Rattle.sampling.specs.Promises.{AfterA}
use Rattle.sampling.specs.Residues.{after_residues}
use Rattle.highs.specs.declared.Highs.{Highs}
use Rattle.highs.specs.Highs.{Adds, Hashes}
use Rattle.checking.specs.declared.hash.Walk.{Walk}
use Rattle.checking.specs.Asks.{ForW, ForT, ForTIn}
use Rattle.checking.specs.Check.{high_tests}
use Rattle.checking.specs.Steps.{w_from, IsW, OneMore, Judged}

-- ---- the next w_i

module _ {set : Numbers} {draw : DrawA} {t zr ps : List ℕ} {ss : List ℤ} {a w : List ℕ} (known : Known set) (asked : ForTIn set draw t zr ps ss a w) where
  pub w_asks : {a₁ : List ℕ} {next : DrawA} → AfterA set draw a₁ next → length a₁ ≡ length a → ForW set t zr ps ss a₁ w
  w_asks drawn kept =
      record {
        good = known_good known;
        a_is = after_residues (known_good known) drawn (kept ∙ asked.a_long);
        t_is = asked.for_t.t_is;
        z_is = asked.for_t.z_is;
        c_is = asked.for_t.c_is;
        w_long = asked.w_long;
      }

pub one_more : {set : Numbers} {before : Walk} {t zr ps : List ℕ} {ss : List ℤ} {a w : List ℕ} {draw : DrawA} {highs : Highs}
    → AfterA set before.draw a draw → IsW set a t zr ps ss w → Adds set before.highs w highs
    → OneMore set before t zr ps ss (record { draw = draw; highs = highs })
one_more {set} {before} {t} {zr} {ps} {ss} {highs = highs} drawn w_is added =
    record {
      drawn = record { written = refl; rest = drawn.rest; valid = drawn.valid; need_is = drawn.need_is };
      added = subst (λ (v : List ℕ). Adds set before.highs v highs) (w_is.is ∙ ap (λ (l : List ℕ). w_from set l t zr ps ss) drawn.written) added;
    }

pub places_i : {set : Numbers} {draw : DrawA} {t zr ps : List ℕ} {ss : List ℤ} {a w : List ℕ} → set ≡ set_i → ForT set draw t zr ps ss
    → length a ≡ 1024 → length w ≡ 1024 → ForTIn set draw t zr ps ss a w
places_i e asked a w = record { for_t = asked; a_long = rw e a; w_long = rw e w }

-- ---- the tests 10 and 11

module _ {set : Numbers} {highs : Highs} {digest g c' : List ℕ} where
  pub judged_high : not highs.fit ≡ true → Judged set highs digest g c' 10
  unfolding high_tests
  judged_high h = record { is = λ parts held. refused (misses held.fit_is h) }

  module _ {found : List ℕ} {same : Bool} (fit : not highs.fit ≡ false) (hashes : Hashes set highs digest g found) (e : same ≡ same_bytes found c') where
    pub judged_differs : not same ≡ true → Judged set highs digest g c' 11
    unfolding high_tests
    judged_differs h =
        record { is = λ parts held. past (holds held.fit_is fit) (refused (misses (e ∙ ap (λ b. same_bytes b c') (hashes.is parts held)) h)) }

    pub judged_accepts : not same ≡ false → Judged set highs digest g c' 0
    unfolding high_tests
    judged_accepts h =
        record { is = λ parts held. past (holds held.fit_is fit) (past (holds (e ∙ ap (λ b. same_bytes b c') (hashes.is parts held)) h) accepted) }
