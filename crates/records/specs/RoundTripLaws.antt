-- The round trips of the public and the secret record, from the entries' own tests. Where writing answers 0, reading what was written
-- answers 0 and gives the same values; where reading answers 0, writing those values answers 0 and gives the same bytes.
--     public_round_trip      in every good set
--     secret_round_trip      in every set
-- Assumes nothing.
use Rattle.std.specs.Prelude.{◌≡◌, refl, List, ℕ, ◌*◌, length}
use Rattle.std.proofs.Common.{ap, ◌∙◌, eq-eqb, eqb-true}
use Rattle.whole.specs.Below.{Below}
use Rattle.whole.specs.Every.{every}
use Rattle.answers.specs.Tests.{answer}
use Rattle.answers.specs.TestLaws.{answer_pass, answer_none, passes_at}
use Rattle.sets.specs.declared.Numbers.{Numbers}
use Rattle.sets.specs.Good.{Good}
use Rattle.sets.specs.Limits.{seed_bytes}
use Rattle.records.specs.Layout.{public_bytes, secret_bytes}
use Rattle.records.specs.Public.{public_record, all_t, seed_a_of, t_in_range, public_tests, read_public_tests, write_public_tests}
use Rattle.records.specs.Secret.{secret_record, s_of, all_e, secret_seed_a, secret_seed_y, secret_g, in_byte_range, byte_tests, secret_tests, read_secret_tests, write_secret_tests}
use Rattle.records.specs.Asks.{SecretLengths}
use Rattle.records.specs.PublicLaws.{public_record_length, all_t_length, seed_a_of_length, public_marked, public_seed_a, public_all_t, public_again, t_in_range_below}
use Rattle.records.specs.SecretLaws.{secret_record_length, secret_marked, secret_s, secret_e, secret_seed_a_lem, secret_seed_y_lem, secret_g_lem, secret_lengths, secret_again}

-- ---- the public record

-- The public record: what was written reads, as the same values; what reads is written, as the same bytes.
pub record PublicRoundTrip (set : Numbers) : Type 0 where
  pub written_reads : (t seed_a : List ℕ) (public_length : ℕ) → answer (write_public_tests set t seed_a public_length) ≡ 0
      → (answer (read_public_tests set (public_record set t seed_a) (length t) (length seed_a)) ≡ 0)
      × (all_t set (public_record set t seed_a) ≡ t)
      × (seed_a_of set (public_record set t seed_a) ≡ seed_a)
  pub read_writes : (public : List ℕ) (t_length seedLength : ℕ) → Below 256 public → answer (read_public_tests set public t_length seedLength) ≡ 0
      → (answer (write_public_tests set (all_t set public) (seed_a_of set public) (length public)) ≡ 0)
      × (public_record set (all_t set public) (seed_a_of set public) ≡ public)

pub public_round_trip : (set : Numbers) → Good set → PublicRoundTrip set
unfolding write_public_tests read_public_tests public_tests every
public_round_trip set good =
    record {
      written_reads = λ t seed_a public_length h.
          let at = passes_at (write_public_tests set t seed_a public_length) refl h in
          let t_long : length t ≡ set.k * set.n = eqb-true _ _ (at 0) in
          let seed_long : length seed_a ≡ seed_bytes = eqb-true _ _ (at 1) in
          let t_back : all_t set (public_record set t seed_a) ≡ t = public_all_t set t seed_a t_long good (t_in_range_below set t (at 3)) in (
            answer_pass 1 _ (at 0)
                ∙ answer_pass 1 _ (at 1)
                ∙ answer_pass 1 _ (eq-eqb _ _ (public_record_length set t seed_a t_long seed_long))
                ∙ answer_pass 2 _ (public_marked set t seed_a)
                ∙ answer_pass 5 _ (ap (t_in_range set) t_back ∙ at 3)
                ∙ answer_none,
            t_back,
            public_seed_a set t seed_a t_long seed_long,
          );
      read_writes = λ public t_length seedLength bytes h.
          let at = passes_at (read_public_tests set public t_length seedLength) refl h in
          let long : length public ≡ public_bytes set = eqb-true _ _ (at 2) in (
            answer_pass 1 _ (eq-eqb _ _ (all_t_length set public))
                ∙ answer_pass 1 _ (eq-eqb _ _ (seed_a_of_length set public long))
                ∙ answer_pass 1 _ (at 2)
                ∙ answer_pass 5 _ (at 4)
                ∙ answer_none,
            public_again set good public bytes long (at 3),
          );
    }

-- ---- the secret record

-- The secret record: what was written reads, as the same values; what reads is written, as the same bytes.
pub record SecretRoundTrip (set : Numbers) : Type 0 where
  pub written_reads : (s e seed_a seed_y g : List ℕ) (secret_length : ℕ) → answer (write_secret_tests set s e seed_a seed_y g secret_length) ≡ 0
      → (answer (read_secret_tests set (secret_record set s e seed_a seed_y g) (length s) (length e) (length seed_a) (length seed_y) (length g)) ≡ 0)
      × (s_of set (secret_record set s e seed_a seed_y g) ≡ s)
      × (all_e set (secret_record set s e seed_a seed_y g) ≡ e)
      × (secret_seed_a set (secret_record set s e seed_a seed_y g) ≡ seed_a)
      × (secret_seed_y set (secret_record set s e seed_a seed_y g) ≡ seed_y)
      × (secret_g set (secret_record set s e seed_a seed_y g) ≡ g)
  pub read_writes : (secret : List ℕ) (s_length eLength seedALength seedYLength gLength : ℕ)
      → answer (read_secret_tests set secret s_length eLength seedALength seedYLength gLength) ≡ 0
      → (answer (write_secret_tests set (s_of set secret) (all_e set secret) (secret_seed_a set secret) (secret_seed_y set secret) (secret_g set secret) (length secret)) ≡ 0)
      × (secret_record set (s_of set secret) (all_e set secret) (secret_seed_a set secret) (secret_seed_y set secret) (secret_g set secret) ≡ secret)

pub secret_round_trip : (set : Numbers) → SecretRoundTrip set
unfolding write_secret_tests read_secret_tests secret_tests byte_tests every
secret_round_trip set =
    record {
      written_reads = λ s e seed_a seed_y g secret_length h.
          let at = passes_at (write_secret_tests set s e seed_a seed_y g secret_length) refl h in
          let long : SecretLengths set s e seed_a seed_y g =
          record {
            s_long = eqb-true _ _ (at 0);
            e_long = eqb-true _ _ (at 1);
            seed_a_long = eqb-true _ _ (at 2);
            seed_y_long = eqb-true _ _ (at 3);
            g_long = eqb-true _ _ (at 4);
          } in (
            answer_pass 1 _ (at 0)
                ∙ answer_pass 1 _ (at 1)
                ∙ answer_pass 1 _ (at 2)
                ∙ answer_pass 1 _ (at 3)
                ∙ answer_pass 1 _ (at 4)
                ∙ answer_pass 1 _ (eq-eqb _ _ (secret_record_length set s e seed_a seed_y g long))
                ∙ answer_pass 2 _ (secret_marked set s e seed_a seed_y g)
                ∙ answer_pass 5 _ (ap in_byte_range (secret_s set s e seed_a seed_y g long) ∙ at 6)
                ∙ answer_pass 5 _ (ap in_byte_range (secret_e set s e seed_a seed_y g long) ∙ at 7)
                ∙ answer_none,
            secret_s set s e seed_a seed_y g long,
            secret_e set s e seed_a seed_y g long,
            secret_seed_a_lem set s e seed_a seed_y g long,
            secret_seed_y_lem set s e seed_a seed_y g long,
            secret_g_lem set s e seed_a seed_y g long,
          );
      read_writes = λ secret s_length eLength seedALength seedYLength gLength h.
          let at = passes_at (read_secret_tests set secret s_length eLength seedALength seedYLength gLength) refl h in
          let long : length secret ≡ secret_bytes set = eqb-true _ _ (at 5) in
          let lengths = secret_lengths set secret long in (
            answer_pass 1 _ (eq-eqb _ _ lengths.s_long)
                ∙ answer_pass 1 _ (eq-eqb _ _ lengths.e_long)
                ∙ answer_pass 1 _ (eq-eqb _ _ lengths.seed_a_long)
                ∙ answer_pass 1 _ (eq-eqb _ _ lengths.seed_y_long)
                ∙ answer_pass 1 _ (eq-eqb _ _ lengths.g_long)
                ∙ answer_pass 1 _ (at 5)
                ∙ answer_pass 5 _ (at 7)
                ∙ answer_pass 5 _ (at 8)
                ∙ answer_none,
            secret_again set secret long (at 6),
          );
    }
