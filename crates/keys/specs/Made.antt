-- A key that key making accepted: what its tests say, and what its two records read as.
-- Assumes nothing: these are definitions.
use Rattle.std.specs.Prelude.{◌≡◌, true, List, ℕ, ◌*◌}
use Rattle.answers.specs.Tests.{answer}
use Rattle.ring.specs.Largest.{sum_passes}
use Rattle.sets.specs.declared.Numbers.{Numbers}
use Rattle.sets.specs.Limits.{seed_bytes, digest_bytes}
use Rattle.sampling.specs.Streams.{key_digest}
use Rattle.records.specs.Public.{packed_t, all_t, seed_a_of, read_public_tests}
use Rattle.records.specs.Secret.{s_of, all_e, secret_seed_a, secret_seed_y, secret_g, in_byte_range, read_secret_tests}
use Rattle.records.specs.Asks.{SecretLengths}
use Rattle.keys.specs.Key.{all_key_t, public_of, secret_of, each_e_passes}

-- g of the key that is made of s, e and seed_a
abbrev pub key_g : Numbers → List ℕ → List ℕ → List ℕ → List ℕ
key_g set s e seed_a = key_digest set (packed_t set (all_key_t set s e seed_a))

-- what key making's tests say of s, e, seed_a and seed_y
pub record Accepted (set : Numbers) (s e seed_a seed_y : List ℕ) : Type 0 where
  pub lengths : SecretLengths set s e seed_a seed_y (key_g set s e seed_a)
  pub s_bytes : in_byte_range s ≡ true
  pub e_bytes : in_byte_range e ≡ true
  pub check_s : sum_passes set.h set.s s ≡ true
  pub check_e : each_e_passes set e ≡ true

-- both records read without refusal: the public one as t_1..t_k and seed_a, the secret one as s, e, seed_a, seed_y and g
pub record MadeReads (set : Numbers) (s e seed_a seed_y : List ℕ) : Type 0 where
  pub public : answer (read_public_tests set (public_of set s e seed_a) (set.k * set.n) seed_bytes) ≡ 0
  pub public_t : all_t set (public_of set s e seed_a) ≡ all_key_t set s e seed_a
  pub public_seed_a : seed_a_of set (public_of set s e seed_a) ≡ seed_a
  pub secret : answer (read_secret_tests set (secret_of set s e seed_a seed_y) set.n (set.k * set.n) seed_bytes seed_bytes digest_bytes) ≡ 0
  pub secret_s : s_of set (secret_of set s e seed_a seed_y) ≡ s
  pub secret_e : all_e set (secret_of set s e seed_a seed_y) ≡ e
  pub secret_seed_a_lem : secret_seed_a set (secret_of set s e seed_a seed_y) ≡ seed_a
  pub secret_seed_y_lem : secret_seed_y set (secret_of set s e seed_a seed_y) ≡ seed_y
  pub secret_g_lem : secret_g set (secret_of set s e seed_a seed_y) ≡ key_g set s e seed_a
