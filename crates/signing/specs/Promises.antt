-- What signing promises, in any set: the number and the counter that come back, and what the signature record holds.
-- Assumes nothing: these are definitions.
use Rattle.std.specs.Prelude.{◌≡◌, List, ℕ, length, Result, Ok, Err}
use Rattle.answers.specs.declared.Refusal.{Refusal}
use Rattle.answers.specs.Tests.{answer}
use Rattle.sets.specs.declared.Numbers.{Numbers}
use Rattle.sampling.specs.Streams.{message_digest, rand_of}
use Rattle.records.specs.Secret.{secret_seed_y}
use Rattle.signing.specs.Search.{Found}
use Rattle.signing.specs.Sign.{sign_tests, sign_search, gives_back}

-- G of the message, and rand
pub record Hashed (set : Numbers) (secret message r digest rand : List ℕ) : Type 0 where
  pub digest_is : digest ≡ message_digest set message
  pub rand_is : rand ≡ rand_of set (secret_seed_y set secret) r (message_digest set message)

-- the counter that comes back, 0 on refusal
abbrev pub counter_of : Result ℕ Refusal → ℕ
counter_of (Ok counter) = counter
counter_of (Err refusal) = 0

-- what comes back where `refusal` is the number of the tests, `f` what the search finds, and the signature buffer held `old`
pub record Gives (set : Numbers) (refusal : ℕ) (f : Found) (old signature : List ℕ) (number counter : ℕ) : Type 0 where
  pub number_is : number ≡ (gives_back set refusal f old).number
  pub counter_is : counter ≡ (gives_back set refusal f old).counter
  pub signature_is : signature ≡ (gives_back set refusal f old).signature

-- signing
abbrev pub Signs : Numbers → List ℕ → List ℕ → List ℕ → ℕ → List ℕ → List ℕ → ℕ → ℕ → Type 0
Signs set secret message r budget old signature number counter =
    Gives set (answer (sign_tests set secret (length message) (length r) budget (length old))) (sign_search set secret message r budget) old signature number counter
