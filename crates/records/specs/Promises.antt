-- What the entries of the public and the secret record promise, in any set: the number that comes back, and what each output holds. And
-- what the functions promise that take a record's values out.
-- Assumes nothing: these are definitions.
use Rattle.std.specs.Prelude.{◌≡◌, List, ℕ, length}
use Rattle.answers.specs.Tests.{Answered, Output}
use Rattle.sets.specs.declared.Numbers.{Numbers}
use Rattle.records.specs.Public.{public_record, all_t, seed_a_of, read_public_tests, write_public_tests}
use Rattle.records.specs.Secret.{secret_record, s_of, all_e, secret_seed_a, secret_seed_y, secret_g, read_secret_tests, write_secret_tests}

-- writing a public record: `old` is what the output held, `new` what it holds
pub record WritesPublic (set : Numbers) (t seed_a old new : List ℕ) (number : ℕ) : Type 0 where
  pub answered : Answered (write_public_tests set t seed_a (length old)) number
  pub public : Output (write_public_tests set t seed_a (length old)) (public_record set t seed_a) old new

-- reading a public record into t and seed_a
pub record ReadsPublic (set : Numbers) (public oldT newT oldSeed newSeed : List ℕ) (number : ℕ) : Type 0 where
  pub answered : Answered (read_public_tests set public (length oldT) (length oldSeed)) number
  pub t : Output (read_public_tests set public (length oldT) (length oldSeed)) (all_t set public) oldT newT
  pub seed_a : Output (read_public_tests set public (length oldT) (length oldSeed)) (seed_a_of set public) oldSeed newSeed

-- writing a secret record
pub record WritesSecret (set : Numbers) (s e seed_a seed_y g old new : List ℕ) (number : ℕ) : Type 0 where
  pub answered : Answered (write_secret_tests set s e seed_a seed_y g (length old)) number
  pub secret : Output (write_secret_tests set s e seed_a seed_y g (length old)) (secret_record set s e seed_a seed_y g) old new

-- reading a secret record into s, e, seed_a, seed_y and g
pub record ReadsSecret (set : Numbers) (secret oldS new_s oldE newE oldA newA oldY newY oldG newG : List ℕ) (number : ℕ) : Type 0 where
  pub answered : Answered (read_secret_tests set secret (length oldS) (length oldE) (length oldA) (length oldY) (length oldG)) number
  pub s : Output (read_secret_tests set secret (length oldS) (length oldE) (length oldA) (length oldY) (length oldG)) (s_of set secret) oldS new_s
  pub e : Output (read_secret_tests set secret (length oldS) (length oldE) (length oldA) (length oldY) (length oldG)) (all_e set secret) oldE newE
  pub seed_a : Output (read_secret_tests set secret (length oldS) (length oldE) (length oldA) (length oldY) (length oldG)) (secret_seed_a set secret) oldA newA
  pub seed_y : Output (read_secret_tests set secret (length oldS) (length oldE) (length oldA) (length oldY) (length oldG)) (secret_seed_y set secret) oldY newY
  pub g : Output (read_secret_tests set secret (length oldS) (length oldE) (length oldA) (length oldY) (length oldG)) (secret_g set secret) oldG newG

-- ---- the values that are taken out of a record

pub record TookPublic (set : Numbers) (public t seed_a : List ℕ) : Type 0 where
  pub t_is : t ≡ all_t set public
  pub seed_a_is : seed_a ≡ seed_a_of set public

pub record TookTail (set : Numbers) (secret seed_a seed_y g : List ℕ) : Type 0 where
  pub seed_a_is : seed_a ≡ secret_seed_a set secret
  pub seed_y_is : seed_y ≡ secret_seed_y set secret
  pub g_is : g ≡ secret_g set secret

pub record TookSecret (set : Numbers) (secret s e seed_a seed_y g : List ℕ) : Type 0 where
  pub s_is : s ≡ s_of set secret
  pub e_is : e ≡ all_e set secret
  pub tail : TookTail set secret seed_a seed_y g
