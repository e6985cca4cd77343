-- What is handed out of reading or opening an envelope is what they promise. Assumes nothing.
use mathlib.Core.Path.{◌≡◌, refl, sym, ap, ◌∙◌}
use mathlib.Core.List.{List}
use Prim.Native.Nat.{ℕ}
use Rattle.std.specs.Prelude.{Result, Ok, Err}
use Rattle.answers.specs.declared.Refusal.{Refusal}
use Rattle.answers.specs.Answers.{refusal_some, number_of}
use Rattle.answers.specs.Tests.{Test, after}
use Rattle.answers.specs.TestLaws.{after_other}
use Rattle.envelope.specs.Envelope.{head_bytes}
use Rattle.envelope.specs.declared.Opened.{Opened}
use Rattle.envelope.specs.Promises.{Opens, opened_team, opened_len}
use Rattle.maesikkong.specs.Promises.{HandsOut, OpensAt}

pub handed_ok : (r : Result Opened Refusal) {o : Opened} {number : ℕ} → r ≡ Ok o → number ≡ number_of r → HandsOut r number o.team head_bytes o.len
unfolding after
handed_ok r e n = record { number_is = n; team_is = rw e refl; start_is = rw e refl; len_is = rw e refl }

pub handed_err : (r : Result Opened Refusal) {refusal : Refusal} {number : ℕ} → r ≡ Err refusal → number ≡ number_of r → HandsOut r number 0 0 0
handed_err r {refusal} e n =
    record { number_is = n; team_is = rw e refl; start_is = rw e (sym (after_other head_bytes 0 (refusal_some refusal))); len_is = rw e refl }

pub opens_at : {ts : List Test} {envelope : List ℕ} (r : Result Opened Refusal) {number team start len : ℕ}
    → Opens ts envelope (number_of r) (opened_team r) (opened_len r) → HandsOut r number team start len → OpensAt ts envelope number team start len
opens_at r o h =
    record {
      opens = rw (h.number_is, h.team_is, h.len_is) o;
      start_is = record { is = h.start_is ∙ ap (λ n. after n head_bytes 0) o.answered.is };
    }
