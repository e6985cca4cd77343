-- What this face promises besides its entries.
-- Assumes nothing: these are definitions.
use Rattle.std.specs.Prelude.{◌≡◌, List, ℕ, length, Result}
use Rattle.answers.specs.declared.Refusal.{Refusal}
use Rattle.answers.specs.Answers.{number_of}
use Rattle.answers.specs.Tests.{Test, Output, after}
use Rattle.shake.specs.Shake256.{shake256}
use Rattle.envelope.specs.Envelope.{head_bytes}
use Rattle.envelope.specs.declared.Opened.{Opened}
use Rattle.envelope.specs.Promises.{Opens, opened_team, opened_len}

-- handing out what reading or opening gave
pub record HandsOut (answer : Result Opened Refusal) (number team start len : ℕ) : Type 0 where
  pub number_is : number ≡ number_of answer
  pub team_is : team ≡ opened_team answer
  pub start_is : start ≡ after (number_of answer) head_bytes 0
  pub len_is : len ≡ opened_len answer

-- reading and opening an envelope: where the roster starts in it, 0 on refusal
pub record OpensAt (ts : List Test) (envelope : List ℕ) (number team start len : ℕ) : Type 0 where
  pub opens : Opens ts envelope number team len
  pub start_is : Output ts head_bytes 0 start

-- SHAKE256 refuses nothing
pub record Shakes (message old new : List ℕ) (number : ℕ) : Type 0 where
  pub number_is : number ≡ 0
  pub out_is : new ≡ shake256 message (length old)
