-- Signing: the tests of its inputs, then the search. What comes back: the number, the counter, and the signature record.
-- Assumes nothing: these are definitions.
use Rattle.std.specs.Prelude.{◌≡◌, List, ◌∷◌, ℕ, zero, suc, ◌≤◌, eqb, leb, length}
use Rattle.answers.specs.Tests.{Test, ◌or_else◌}
use Rattle.sets.specs.declared.Numbers.{Numbers}
use Rattle.sets.specs.Limits.{message_limit, budget_limit, seed_bytes}
use Rattle.sampling.specs.Streams.{message_digest, rand_of}
use Rattle.records.specs.Layout.{marked, secret_bytes, signature_bytes}
use Rattle.records.specs.Secret.{s_of, all_e, secret_seed_y}
use Rattle.signatures.specs.Signature.{signature_record}
use Rattle.keys.specs.Key.{secrets_tests}
use Rattle.attempts.specs.Attempt.{Outcome, key_of, attempt}
use Rattle.signing.specs.Search.{Found, found, none, overflow, search}

-- ---- the tests

-- those of beginning: the secret record, the message and r by their lengths, the budget, s and e_1..e_k
unfoldable pub begin_tests : Numbers → List ℕ → ℕ → ℕ → ℕ → List Test
begin_tests set secret message_length r_length budget =
    (eqb (length secret) (secret_bytes set) or_else 1)
    ∷ (eqb r_length seed_bytes or_else 1)
    ∷ (marked set 2 secret or_else 2)
    ∷ (leb message_length message_limit or_else 3)
    ∷ (leb 1 budget or_else 4)
    ∷ (leb budget budget_limit or_else 4)
    ∷ secrets_tests set (s_of set secret) (all_e set secret)

-- and the output's length before them
unfoldable pub sign_tests : Numbers → List ℕ → ℕ → ℕ → ℕ → ℕ → List Test
sign_tests set secret message_length r_length budget signature_length =
    (eqb signature_length (signature_bytes set) or_else 1) ∷ begin_tests set secret message_length r_length budget

-- ---- what a signer is lent beside its key, as document 01 names it

-- a message within the limit, r of 32 bytes, a budget from 1 to 1,024, and a signature buffer of the named length
pub record Asked (set : Numbers) (message r : List ℕ) (budget : ℕ) (signature : List ℕ) : Type 0 where
  pub message_short : length message ≤ message_limit
  pub r_long : length r ≡ seed_bytes
  pub budget_some : 1 ≤ budget
  pub budget_few : budget ≤ budget_limit
  pub signature_long : length signature ≡ signature_bytes set

-- ---- what comes back

-- attempt number j of signing a message with a secret record and r
abbrev pub sign_attempts : Numbers → List ℕ → List ℕ → List ℕ → ℕ → Outcome
sign_attempts set secret message r = attempt set (key_of set secret) (message_digest set message) (rand_of set (secret_seed_y set secret) r (message_digest set message))

-- the search that signing makes
unfoldable pub sign_search : Numbers → List ℕ → List ℕ → List ℕ → ℕ → Found
sign_search set secret message r budget = search (sign_attempts set secret message r) budget

-- the number, the counter, and what the signature buffer holds
pub record Back : Type 0 where
  pub number : ℕ
  pub counter : ℕ
  pub signature : List ℕ

-- what signing gives back, where `refusal` is the number of its tests, `f` what its search finds and `old` what the buffer held
abbrev pub gives_back : Numbers → ℕ → Found → List ℕ → Back
gives_back set zero (found counter z c') old = record { number = 0; counter = counter; signature = signature_record set z c' }
gives_back set zero none old = record { number = 8; counter = 0; signature = old }
gives_back set zero overflow old = record { number = 10; counter = 0; signature = old }
gives_back set (suc refusal) f old = record { number = suc refusal; counter = 0; signature = old }
