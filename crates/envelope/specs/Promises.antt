-- What the entries of the envelope promise: the number that comes back, what the envelope that is written holds, and the team number and the
-- roster's length that come back of reading and opening.
-- Assumes nothing: these are definitions.
use Rattle.std.specs.Prelude.{List, ℕ, length, Result, Ok, Err}
use Rattle.answers.specs.declared.Refusal.{Refusal}
use Rattle.answers.specs.Tests.{Test, Answered, Output}
use Rattle.sets.specs.declared.Numbers.{Numbers}
use Rattle.envelope.specs.declared.Opened.{Opened}
use Rattle.envelope.specs.Envelope.{envelope_of, team_of, length_of, write_tests}

-- writing an envelope: `old` is what the output held, `new` what it holds
pub record WritesEnvelope (set : Numbers) (team : ℕ) (roster signature old new : List ℕ) (number : ℕ) : Type 0 where
  pub answered : Answered (write_tests set roster signature (length old)) number
  pub envelope : Output (write_tests set roster signature (length old)) (envelope_of set team roster signature) old new

-- what an envelope's head gives
abbrev pub opened : List ℕ → Opened
opened envelope = record { team = team_of envelope; len = length_of envelope }

-- the team number and the roster's length that come back, both 0 on refusal
abbrev pub opened_team : Result Opened Refusal → ℕ
opened_team (Ok o) = o.team
opened_team (Err refusal) = 0

abbrev pub opened_len : Result Opened Refusal → ℕ
opened_len (Ok o) = o.len
opened_len (Err refusal) = 0

-- reading and opening, each with its own tests: the team number and the roster's length, both 0 on refusal
pub record Opens (ts : List Test) (envelope : List ℕ) (number team len : ℕ) : Type 0 where
  pub answered : Answered ts number
  pub team_is : Output ts (team_of envelope) 0 team
  pub len_is : Output ts (length_of envelope) 0 len
