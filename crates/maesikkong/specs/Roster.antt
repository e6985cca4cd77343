-- The start and the length that come back name the roster that comes back, a stretch of the lent envelope: on refusal both are 0 and it is
-- empty.
-- Assumes nothing.
use Rattle.std.specs.Prelude.{◌≡◌, refl, List, ℕ, zero, suc}
use Rattle.std.proofs.Common.{ap₂, ◌∙◌}
use Rattle.answers.specs.Tests.{Test, answer, after}
use Rattle.records.specs.Layout.{stretch}
use Rattle.envelope.specs.Envelope.{head_bytes, length_of, roster_of, roster_answered}
use Rattle.maesikkong.specs.Promises.{OpensAt}

at : (refusal : ℕ) (envelope : List ℕ)
    → stretch (after refusal head_bytes 0) (after refusal (length_of envelope) 0) envelope ≡ roster_answered refusal envelope
unfolding after roster_of
at zero envelope = refl
at (suc refusal) envelope = refl

pub roster_at : {ts : List Test} {envelope : List ℕ} {number team start len : ℕ} → OpensAt ts envelope number team start len
    → stretch start len envelope ≡ roster_answered (answer ts) envelope
roster_at {ts} {envelope} o = ap₂ (λ a m. stretch a m envelope) o.start_is.is o.opens.len_is.is ∙ at (answer ts) envelope
