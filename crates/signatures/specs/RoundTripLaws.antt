-- The round trip of the signature record, from the entries' own tests, in every good set. Where writing answers 0, reading what was
-- written answers 0 and gives the same values; where reading answers 0, writing those values answers 0 and gives the same bytes.
-- Assumes nothing.
use Rattle.std.specs.Prelude.{◌≡◌, refl, List, ℕ, ℤ, length}
use Rattle.std.proofs.Common.{ap, ◌∙◌, eq-eqb, eqb-true}
use Rattle.whole.specs.Below.{Below}
use Rattle.whole.specs.Every.{every}
use Rattle.answers.specs.Tests.{answer}
use Rattle.answers.specs.TestLaws.{answer_pass, answer_none, passes_at}
use Rattle.sets.specs.declared.Numbers.{Numbers}
use Rattle.sets.specs.Good.{Good}
use Rattle.sets.specs.Limits.{seed_bytes}
use Rattle.records.specs.Layout.{signature_bytes}
use Rattle.signatures.specs.Signature.{signature_record, z_of, challenge_of, z_in_range, signature_tests, read_signature_tests, write_signature_tests}
use Rattle.signatures.specs.Laws.{signature_record_length, z_of_length, challenge_of_length, signature_marked, signature_z, signature_challenge, signature_again}

-- The signature record: what was written reads, as the same values; what reads is written, as the same bytes.
pub record SignatureRoundTrip (set : Numbers) : Type 0 where
  pub written_reads : (z : List ℤ) (c' : List ℕ) (signature_length : ℕ) → answer (write_signature_tests set z c' signature_length) ≡ 0
      → (answer (read_signature_tests set (signature_record set z c') (length z) (length c')) ≡ 0)
      × (z_of set (signature_record set z c') ≡ z)
      × (challenge_of set (signature_record set z c') ≡ c')
  pub read_writes : (signature : List ℕ) (z_length cLength : ℕ) → Below 256 signature → answer (read_signature_tests set signature z_length cLength) ≡ 0
      → (answer (write_signature_tests set (z_of set signature) (challenge_of set signature) (length signature)) ≡ 0)
      × (signature_record set (z_of set signature) (challenge_of set signature) ≡ signature)

pub signature_round_trip : (set : Numbers) → Good set → SignatureRoundTrip set
unfolding write_signature_tests read_signature_tests signature_tests every
signature_round_trip set good =
    record {
      written_reads = λ z c' signature_length h.
          let at = passes_at (write_signature_tests set z c' signature_length) refl h in
          let z_long : length z ≡ set.n = eqb-true _ _ (at 0) in
          let c_long : length c' ≡ seed_bytes = eqb-true _ _ (at 1) in
          let z_back : z_of set (signature_record set z c') ≡ z = signature_z set z c' z_long good (at 3) in (
            answer_pass 1 _ (at 0)
                ∙ answer_pass 1 _ (at 1)
                ∙ answer_pass 1 _ (eq-eqb _ _ (signature_record_length set z c' z_long c_long))
                ∙ answer_pass 2 _ (signature_marked set z c')
                ∙ answer_pass 9 _ (ap (z_in_range set) z_back ∙ at 3)
                ∙ answer_none,
            z_back,
            signature_challenge set z c' z_long c_long,
          );
      read_writes = λ signature z_length cLength bytes h.
          let at = passes_at (read_signature_tests set signature z_length cLength) refl h in
          let long : length signature ≡ signature_bytes set = eqb-true _ _ (at 2) in (
            answer_pass 1 _ (eq-eqb _ _ (z_of_length set signature))
                ∙ answer_pass 1 _ (eq-eqb _ _ (challenge_of_length set signature long))
                ∙ answer_pass 1 _ (at 2)
                ∙ answer_pass 9 _ (at 4)
                ∙ answer_none,
            signature_again set good signature bytes long (at 3),
          );
    }
