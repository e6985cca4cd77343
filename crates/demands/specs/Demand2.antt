-- Demand 2's laws of the records, for every good set: the four round trips, from the entries' own tests (`round_trips`); and that the records which
-- key making and signing write read without refusal, as what they were made of (`made_reads` in `keys/specs/MadeLaws`, and `signed_reads`).
-- That the code computes the algorithms, bytes and streams is what the contracts say.
-- Assumes nothing.
use Rattle.std.specs.Prelude.{◌≡◌, refl, List, ℕ}
use Rattle.std.proofs.Common.{ap, ◌∙◌, eq-eqb}
use Rattle.answers.specs.Tests.{answer}
use Rattle.answers.specs.TestLaws.{answer_pass, answer_none}
use Rattle.sets.specs.declared.Numbers.{Numbers}
use Rattle.sets.specs.Good.{Good}
use Rattle.sets.specs.Limits.{seed_bytes}
use Rattle.records.specs.Layout.{signature_bytes}
use Rattle.records.specs.RoundTripLaws.{PublicRoundTrip, SecretRoundTrip, public_round_trip, secret_round_trip}
use Rattle.signatures.specs.Signature.{z_of, challenge_of, read_signature_tests, write_signature_tests}
use Rattle.signatures.specs.RoundTripLaws.{SignatureRoundTrip, signature_round_trip}
use Rattle.signing.specs.Sign.{sign_attempts}
use Rattle.signing.specs.Promises.{Signs}
use Rattle.envelope.specs.RoundTripLaws.{EnvelopeRoundTrip, envelope_round_trip}
use Rattle.demands.specs.Holds.{SignatureFits, passed_fits}
use Rattle.demands.specs.Demand3.{Issued, signed_issued}

-- what was written reads, as the same values; what reads is written, as the same bytes
pub record RoundTrips (set : Numbers) : Type 0 where
  pub public : PublicRoundTrip set
  pub secret : SecretRoundTrip set
  pub signature : SignatureRoundTrip set
  pub envelope : EnvelopeRoundTrip set

pub round_trips : (set : Numbers) → Good set → RoundTrips set
round_trips set good =
    record {
      public = public_round_trip set good;
      secret = secret_round_trip set;
      signature = signature_round_trip set good;
      envelope = envelope_round_trip set;
    }

-- a signature that was issued reads as that attempt's z and c'
pub record SignedReads (set : Numbers) (secret message r : List ℕ) (budget counter : ℕ) (signature : List ℕ) : Type 0 where
  pub issued : Issued set (sign_attempts set secret message r) budget counter signature
  pub read : answer (read_signature_tests set signature set.n seed_bytes) ≡ 0
  pub z_same : z_of set signature ≡ issued.z
  pub c_same : challenge_of set signature ≡ issued.c'

-- where signing answers 0
pub signed_reads : (set : Numbers) → Good set → (secret message r old signature : List ℕ) (budget counter : ℕ)
    → Signs set secret message r budget old signature 0 counter
    → SignedReads set secret message r budget counter signature
unfolding write_signature_tests
signed_reads set good secret message r old signature budget counter signs =
    let back = (signature_round_trip set good).written_reads i.z i.c' (signature_bytes set) writes in
    record {
      issued = i;
      read = rw i.written (rw (fits.z_long, fits.c_long) at back.0);
      z_same = ap (z_of set) i.written ∙ back.1;
      c_same = ap (challenge_of set) i.written ∙ back.2;
    }
  where
    i : Issued set (sign_attempts set secret message r) budget counter signature
    i = signed_issued set secret message r old signature budget counter signs good

    fits : SignatureFits set i.z i.c'
    fits = passed_fits set _ _ _ counter i.z i.c' i.passed

    -- writing it answers 0
    writes : answer (write_signature_tests set i.z i.c' (signature_bytes set)) ≡ 0
    writes =
        answer_pass 1 _ (eq-eqb _ _ fits.z_long)
        ∙ answer_pass 1 _ (eq-eqb _ _ fits.c_long)
        ∙ answer_pass 1 _ (eq-eqb (signature_bytes set) _ refl)
        ∙ answer_pass 9 _ fits.z_passes
        ∙ answer_none
