-- The answer for an input of a public record and an envelope, from its length and from what opening answers.
-- Assumes nothing.
use mathlib.Core.Path.{◌≡◌, ap, ◌∙◌}
use mathlib.Core.Bool.{Bool, true}
use mathlib.Core.List.{List, ◌∷◌}
use Prim.Native.Nat.{ℕ, ◌-◌, ◌≤◌, ◌<◌}
use native.Mathlib.Omega.{arith}
use lib.ListN.{length, take, drop}
use borrow.Author.Tests.{le-leb, lt-leb}
use Rattle.answers.specs.Tests.{Test, ◌or_else◌, Answered}
use Rattle.answers.specs.TestLaws.{refused, past, answer_pass}
use Rattle.answers.specs.OutputLaws.{kept}
use Rattle.whole.specs.Written.{lent_rest}
use Rattle.sets.specs.declared.Numbers.{Numbers}
use Rattle.sets.specs.SetI.{set_i}
use Rattle.records.specs.Layout.{public_bytes}
use Rattle.envelope.specs.Envelope.{open_tests}
use Rattle.envelope.specs.Promises.{Opens}
use Rattle.envelope.specs.Program.{program_tests, envelope_part}

-- where one more test comes first, and passes
opens_past : {passes : Bool} (first : ℕ) (ts : List Test) (envelope : List ℕ) {number team len : ℕ} → passes ≡ true
    → Opens ts envelope number team len → Opens ((passes or_else first) ∷ ts) envelope number team len
opens_past first ts envelope e o =
    record {
      answered = past e o.answered;
      team_is = record { is = rw (answer_pass first ts e) o.team_is.is };
      len_is = record { is = rw (answer_pass first ts e) o.len_is.is };
    }

module _ (input : List ℕ) {numbers : Numbers} {end : ℕ} (n : numbers ≡ set_i) (e : end ≡ public_bytes numbers) where
  end_is : end ≡ public_bytes set_i
  end_is = e ∙ ap public_bytes n

  pub too_short : length input < end → Opens (program_tests input) (envelope_part input) 1 0 0
  unfolding program_tests
  too_short l = record { answered = one; team_is = kept one; len_is = kept one }
    where
      one : Answered (program_tests input) 1
      one = refused (lt-leb (public_bytes set_i) (length input) (omega (arith, end_is)))

  pub opens_input : {number team len : ℕ} → end ≤ length input
      → Opens (open_tests set_i (take end input) (take (length input - end) (drop end input))) (take (length input - end) (drop end input)) number team len
      → Opens (program_tests input) (envelope_part input) number team len
  unfolding program_tests
  opens_input l o =
      opens_past 1 _ (envelope_part input) (le-leb (public_bytes set_i) (length input) (omega (arith, end_is))) (rw (lent_rest end input, end_is) at o)
