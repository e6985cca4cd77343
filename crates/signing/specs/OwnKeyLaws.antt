-- A signer takes the keys that key making makes: the secret record that key making writes passes signing's tests, where the rest of what
-- is lent is as document 01 names it (`own_key_passes`), and an attempt reads from it what key making put there (`own_key`).
-- Assumes nothing.
use Rattle.std.specs.Prelude.{◌≡◌, List, ℕ, length}
use Rattle.std.proofs.Common.{ap, ◌∙◌, eq-eqb, le-leb}
use Rattle.answers.specs.Tests.{answer}
use Rattle.answers.specs.TestLaws.{answer_pass, answer_none}
use Rattle.ring.specs.Largest.{sum_passes}
use Rattle.sets.specs.declared.Numbers.{Numbers}
use Rattle.records.specs.Secret.{s_of, all_e, in_byte_range, byte_tests}
use Rattle.records.specs.SecretLaws.{secret_record_length, secret_marked, secret_s, secret_e, secret_seed_a_lem, secret_g_lem}
use Rattle.keys.specs.Key.{secret_of, each_e_passes, secrets_tests}
use Rattle.keys.specs.Made.{key_g, Accepted}
use Rattle.attempts.specs.Attempt.{Key, key_of}
use Rattle.signing.specs.Sign.{Asked, begin_tests, sign_tests}

-- what an attempt takes of the key that is made of s, e and seed_a
abbrev pub made_key : Numbers → List ℕ → List ℕ → List ℕ → Key
made_key set s e seed_a = record { s = s; e = e; seed_a = seed_a; g = key_g set s e seed_a }

module _ (set : Numbers) (s e seed_a seed_y : List ℕ) (key : Accepted set s e seed_a seed_y) where
  pub own_key : key_of set (secret_of set s e seed_a seed_y) ≡ made_key set s e seed_a
  unfolding key_of secret_of
  own_key =
      λ i. record {
        s = secret_s set s e seed_a seed_y (key_g set s e seed_a) key.lengths i;
        e = secret_e set s e seed_a seed_y (key_g set s e seed_a) key.lengths i;
        seed_a = secret_seed_a_lem set s e seed_a seed_y (key_g set s e seed_a) key.lengths i;
        g = secret_g_lem set s e seed_a seed_y (key_g set s e seed_a) key.lengths i;
      }

  pub own_key_passes : (message r : List ℕ) (budget : ℕ) (signature : List ℕ) → Asked set message r budget signature
      → answer (sign_tests set (secret_of set s e seed_a seed_y) (length message) (length r) budget (length signature)) ≡ 0
  unfolding sign_tests begin_tests secrets_tests byte_tests secret_of
  own_key_passes message r budget signature asked =
      answer_pass 1 _ (eq-eqb _ _ asked.signature_long)
      ∙ answer_pass 1 _ (eq-eqb _ _ (secret_record_length set s e seed_a seed_y (key_g set s e seed_a) key.lengths))
      ∙ answer_pass 1 _ (eq-eqb _ _ asked.r_long)
      ∙ answer_pass 2 _ (secret_marked set s e seed_a seed_y (key_g set s e seed_a))
      ∙ answer_pass 3 _ (le-leb _ _ asked.message_short)
      ∙ answer_pass 4 _ (le-leb _ _ asked.budget_some)
      ∙ answer_pass 4 _ (le-leb _ _ asked.budget_few)
      ∙ answer_pass 5 _ (ap in_byte_range s_back ∙ key.s_bytes)
      ∙ answer_pass 5 _ (ap in_byte_range e_back ∙ key.e_bytes)
      ∙ answer_pass 6 _ (ap (sum_passes set.h set.s) s_back ∙ key.check_s)
      ∙ answer_pass 7 _ (ap (each_e_passes set) e_back ∙ key.check_e)
      ∙ answer_none
    where
      s_back : s_of set (secret_of set s e seed_a seed_y) ≡ s
      s_back = secret_s set s e seed_a seed_y (key_g set s e seed_a) key.lengths

      e_back : all_e set (secret_of set s e seed_a seed_y) ≡ e
      e_back = secret_e set s e seed_a seed_y (key_g set s e seed_a) key.lengths
