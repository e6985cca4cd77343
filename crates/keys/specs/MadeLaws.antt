-- Laws of a key that key making accepted: what its tests say (`key_accepted`), and that in every good set both records that it writes read
-- without refusal, as the values that they were made of (`made_reads`).
-- Assumes nothing.
use Rattle.std.specs.Prelude.{◌≡◌, refl, List, ℕ}
use Rattle.std.proofs.Common.{◌∙◌, eq-eqb, eqb-true}
use Rattle.whole.specs.Every.{every}
use Rattle.answers.specs.Tests.{answer}
use Rattle.answers.specs.TestLaws.{answer_pass, answer_none, passes_at}
use Rattle.sets.specs.declared.Numbers.{Numbers}
use Rattle.sets.specs.Good.{Good}
use Rattle.sets.specs.Limits.{digest_bytes}
use Rattle.sampling.specs.Streams.{key_digest}
use Rattle.sampling.specs.StreamsLaws.{shake_length}
use Rattle.records.specs.Layout.{public_bytes, secret_bytes}
use Rattle.records.specs.Public.{write_public_tests}
use Rattle.records.specs.Secret.{byte_tests, write_secret_tests}
use Rattle.records.specs.PublicLaws.{below_t_in_range}
use Rattle.records.specs.RoundTripLaws.{public_round_trip, secret_round_trip}
use Rattle.keys.specs.Key.{all_key_t, public_of, secret_of, secrets_tests, make_key_tests}
use Rattle.keys.specs.KeyLaws.{all_key_t_length, all_key_t_below}
use Rattle.keys.specs.Made.{key_g, Accepted, MadeReads}

pub key_accepted : (set : Numbers) (s e seed_a seed_y : List ℕ) (public_length secret_length : ℕ)
    → answer (make_key_tests set s e seed_a seed_y public_length secret_length) ≡ 0 → Accepted set s e seed_a seed_y
unfolding make_key_tests secrets_tests byte_tests key_digest every
key_accepted set s e seed_a seed_y public_length secret_length made =
    let at = passes_at (make_key_tests set s e seed_a seed_y public_length secret_length) refl made in
    record {
      lengths =
          record {
            s_long = eqb-true _ _ (at 0);
            e_long = eqb-true _ _ (at 1);
            seed_a_long = eqb-true _ _ (at 2);
            seed_y_long = eqb-true _ _ (at 3);
            g_long = shake_length _ digest_bytes;
          };
      s_bytes = at 6;
      e_bytes = at 7;
      check_s = at 8;
      check_e = at 9;
    }

module _ (set : Numbers) (s e seed_a seed_y : List ℕ) (key : Accepted set s e seed_a seed_y) where
  -- what key making writes passes the tests of writing
  public_passes : Good set → answer (write_public_tests set (all_key_t set s e seed_a) seed_a (public_bytes set)) ≡ 0
  unfolding write_public_tests
  public_passes good =
      answer_pass 1 _ (eq-eqb _ _ (all_key_t_length set s e seed_a))
      ∙ answer_pass 1 _ (eq-eqb _ _ key.lengths.seed_a_long)
      ∙ answer_pass 1 _ (eq-eqb (public_bytes set) _ refl)
      ∙ answer_pass 5 _ (below_t_in_range set (all_key_t set s e seed_a) (all_key_t_below set s e seed_a good))
      ∙ answer_none

  secret_passes : answer (write_secret_tests set s e seed_a seed_y (key_g set s e seed_a) (secret_bytes set)) ≡ 0
  unfolding write_secret_tests byte_tests
  secret_passes =
      answer_pass 1 _ (eq-eqb _ _ key.lengths.s_long)
      ∙ answer_pass 1 _ (eq-eqb _ _ key.lengths.e_long)
      ∙ answer_pass 1 _ (eq-eqb _ _ key.lengths.seed_a_long)
      ∙ answer_pass 1 _ (eq-eqb _ _ key.lengths.seed_y_long)
      ∙ answer_pass 1 _ (eq-eqb _ _ key.lengths.g_long)
      ∙ answer_pass 1 _ (eq-eqb (secret_bytes set) _ refl)
      ∙ answer_pass 5 _ key.s_bytes
      ∙ answer_pass 5 _ key.e_bytes
      ∙ answer_none

  pub accepted_reads : Good set → MadeReads set s e seed_a seed_y
  unfolding public_of secret_of
  accepted_reads good =
      let public_back = (public_round_trip set good).written_reads (all_key_t set s e seed_a) seed_a (public_bytes set) (public_passes good) in
      let secret_back = (secret_round_trip set).written_reads s e seed_a seed_y (key_g set s e seed_a) (secret_bytes set) secret_passes in
      record {
        public = rw (all_key_t_length set s e seed_a, key.lengths.seed_a_long) at public_back.0;
        public_t = public_back.1;
        public_seed_a = public_back.2;
        secret =
            rw (key.lengths.s_long, key.lengths.e_long, key.lengths.seed_a_long, key.lengths.seed_y_long, key.lengths.g_long) at secret_back.0;
        secret_s = secret_back.1;
        secret_e = secret_back.2;
        secret_seed_a_lem = secret_back.3;
        secret_seed_y_lem = secret_back.4;
        secret_g_lem = secret_back.5;
      }

pub made_reads : (set : Numbers) → Good set → (s e seed_a seed_y : List ℕ) (public_length secret_length : ℕ)
    → answer (make_key_tests set s e seed_a seed_y public_length secret_length) ≡ 0 → MadeReads set s e seed_a seed_y
made_reads set good s e seed_a seed_y public_length secret_length made =
    accepted_reads set s e seed_a seed_y (key_accepted set s e seed_a seed_y public_length secret_length made) good
