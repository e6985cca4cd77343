-- The tests of the inputs, then those of the hash. Assumes nothing.
use mathlib.Core.Path.{◌≡◌, refl}
use mathlib.Core.Bool.{true}
use mathlib.Core.List.{List}
use Prim.Native.Nat.{ℕ}
use borrow.Author.Tests.{eqb-true}
use Rattle.whole.specs.Every.{every}
use Rattle.answers.specs.Tests.{Answered, AllPass, numbered}
use Rattle.answers.specs.ResultLaws.{passed_ok}
use Rattle.sets.specs.declared.Numbers.{Numbers}
use Rattle.sampling.specs.Streams.{message_digest}
use Rattle.checking.specs.Check.{input_tests, work_tests}
use Rattle.checking.specs.Asks.{Tested}

pub inputs_numbered : (set : Numbers) (public : List ℕ) (message : ℕ) (signature : List ℕ) → numbered (input_tests set public message signature) ≡ true
unfolding input_tests every
inputs_numbered set public message signature = refl

pub inputs_tested : {set : Numbers} {public signature : List ℕ} (message : ℕ)
    → Answered (input_tests set public message signature) 0 → Tested set public signature
unfolding input_tests AllPass every
inputs_tested message a =
    let p = passed_ok a refl in
    record {
      public_long = eqb-true _ _ p.0;
      signature_long = eqb-true _ _ p.1.0;
      t_inside = p.1.1.1.1.1.0;
      z_inside = p.1.1.1.1.1.1.0;
    }

pub digest_answered : (set : Numbers) (public message signature : List ℕ) {digest : List ℕ} {number : ℕ} → digest ≡ message_digest set message
    → Answered (work_tests set public digest signature) number → Answered (work_tests set public (message_digest set message) signature) number
digest_answered set public message signature e a = rw e at a
