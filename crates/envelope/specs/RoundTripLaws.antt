-- The round trip of the envelope, from the entries' own tests, in every set. Where writing answers 0, reading what was written answers
-- 0 and gives the same team number, roster and signature record; where reading answers 0, writing those answers 0 and gives the same
-- bytes. A team number has two bytes, and what reads as one fits them.
-- Assumes nothing.
use Rattle.std.specs.Prelude.{◌≡◌, refl, List, ℕ, ◌<◌, leb, length}
use Rattle.std.proofs.Common.{sym, ap, ◌∙◌, arith, eq-eqb}
use Rattle.whole.specs.Below.{Below}
use Rattle.whole.specs.Every.{every}
use Rattle.answers.specs.Tests.{answer}
use Rattle.answers.specs.TestLaws.{answer_pass, answer_none, answer_past, passes_at}
use Rattle.sets.specs.declared.Numbers.{Numbers}
use Rattle.sets.specs.Limits.{roster_limit}
use Rattle.records.specs.Layout.{marked}
use Rattle.signatures.specs.Signature.{z_of, z_in_range}
use Rattle.envelope.specs.Envelope.{envelope_bytes, envelope_of, team_of, length_of, roster_of, signature_of, head_tests, read_tests, write_tests}
use Rattle.envelope.specs.EnvelopeLaws.{head_numbered, envelope_head, envelope_team, envelope_length_lem, envelope_roster, envelope_signature, writable, envelope_total, roster_of_length, signature_of_length, team_of_fits, envelope_again}

-- The envelope: what was written reads, as the same values; what reads is written, as the same bytes.
pub record EnvelopeRoundTrip (set : Numbers) : Type 0 where
  pub written_reads : (team : ℕ) (roster signature : List ℕ) (envelope_length : ℕ) → team < 65536 → answer (write_tests set roster signature envelope_length) ≡ 0
      → (answer (read_tests set (envelope_of set team roster signature)) ≡ 0)
      × (team_of (envelope_of set team roster signature) ≡ team)
      × (length_of (envelope_of set team roster signature) ≡ length roster)
      × (roster_of (envelope_of set team roster signature) ≡ roster)
      × (signature_of set (envelope_of set team roster signature) ≡ signature)
  pub read_writes : (envelope : List ℕ) → Below 256 envelope → answer (read_tests set envelope) ≡ 0
      → (team_of envelope < 65536)
      × (answer (write_tests set (roster_of envelope) (signature_of set envelope) (length envelope)) ≡ 0)
      × (envelope_of set (team_of envelope) (roster_of envelope) (signature_of set envelope) ≡ envelope)

pub envelope_round_trip : (set : Numbers) → EnvelopeRoundTrip set
unfolding write_tests read_tests head_tests every
envelope_round_trip set =
    record {
      written_reads = λ team roster signature envelope_length small h.
          let w = writable set roster signature envelope_length h in
          let short : length roster < 65536 = omega (arith, w.short) in
          let envelope : List ℕ = envelope_of set team roster signature in
          let back : signature_of set envelope ≡ signature = envelope_signature set team roster signature short w.signature_long in (
            answer_past (head_tests set envelope) _ (head_numbered set envelope) (envelope_head set team roster signature w.signature_long w.short)
                ∙ answer_pass 2 _ (ap (marked set 3) back ∙ w.signature_mark)
                ∙ answer_pass 9 _ (ap (λ (x : List ℕ). z_in_range set (z_of set x)) back ∙ w.z_passes)
                ∙ answer_none,
            envelope_team set team roster signature small,
            envelope_length_lem set team roster signature short,
            envelope_roster set team roster signature short,
            back,
          );
      read_writes = λ envelope bytes h.
          let at = passes_at (read_tests set envelope) refl h in
          let head : answer (head_tests set envelope) ≡ 0 =
          answer_pass 1 _ (at 0) ∙ answer_pass 2 _ (at 1) ∙ answer_pass 3 _ (at 2) ∙ answer_pass 1 _ (at 3) ∙ answer_none in
          let roster_long : length (roster_of envelope) ≡ length_of envelope = roster_of_length set envelope head in (
            team_of_fits set envelope bytes head,
            answer_pass 1 _ (eq-eqb _ _ (signature_of_length set envelope head))
                ∙ answer_pass 1 _ (eq-eqb _ _ (envelope_total set envelope head ∙ ap (envelope_bytes set) (sym roster_long)))
                ∙ answer_pass 2 _ (at 4)
                ∙ answer_pass 3 _ (ap (λ (n : ℕ). leb n roster_limit) roster_long ∙ at 2)
                ∙ answer_pass 9 _ (at 5)
                ∙ answer_none,
            envelope_again set envelope bytes head,
          );
    }
