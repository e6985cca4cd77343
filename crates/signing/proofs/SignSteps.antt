-- Signing after its tests, a message in two pieces, and what the tests say. Assumes nothing.
use mathlib.Core.Path.{◌≡◌, refl, sym, ◌∙◌}
use mathlib.Core.List.{List, ◌++◌}
use Prim.Native.Nat.{ℕ, ◌+◌, ◌*◌, ◌-◌}
use native.Mathlib.Omega.{arith}
use lib.ListN.{length, take, drop, length-append}
use borrow.Author.Tests.{eqb-true, leb-true}
use Rattle.whole.specs.Every.{every}
use Rattle.answers.specs.Tests.{Answered, AllPass}
use Rattle.answers.specs.ResultLaws.{passed_ok}
use Rattle.sets.specs.declared.Numbers.{Numbers}
use Rattle.sets.specs.Good.{Good}
use Rattle.sets.specs.Limits.{seed_bytes}
use Rattle.sampling.specs.Streams.{message_digest, rand_of}
use Rattle.records.specs.Secret.{byte_tests, s_of, all_e, secret_seed_y}
use Rattle.records.specs.SecretLaws.{s_lent, e_lent, e_lent_long}
use Rattle.keys.specs.Asks.{LongE}
use Rattle.keys.specs.Key.{secrets_tests}
use Rattle.attempts.specs.Attempt.{key_of, attempt}
use Rattle.signing.specs.Search.{search}
use Rattle.signing.specs.Sign.{begin_tests, sign_tests, sign_search}
use Rattle.signing.specs.Promises.{Hashed, Gives}
use Rattle.signing.specs.Asks.{SearchesKey}

-- ---- s and e_1..e_k of a secret record

module _ (set : Numbers) (secret : List ℕ) {middle end : ℕ} (a : middle ≡ 2 + set.n) (b : end ≡ 2 + set.n + set.k * set.n) where
  pub secrets_asked : {len : ℕ} → Good set → length secret ≡ len → len ≡ 2 + (set.n + (set.k * set.n + (seed_bytes + (seed_bytes + 40))))
      → LongE set (take (end - middle) (drop middle secret))
  secrets_asked good e f = record { good = good; e_long = e_lent_long set secret a b (e ∙ f) }

  pub secrets_lent : {number : ℕ} → Answered (secrets_tests set (take (middle - 2) (drop 2 secret)) (take (end - middle) (drop middle secret))) number
      → Answered (secrets_tests set (s_of set secret) (all_e set secret)) number
  secrets_lent t = rw (s_lent set secret a b, e_lent set secret a b) at t

-- ---- G of the message, and rand

pub hashed : (set : Numbers) (secret r message : List ℕ) {y g : ℕ} → y ≡ 2 + set.n + set.k * set.n + seed_bytes
    → g ≡ 2 + set.n + set.k * set.n + seed_bytes + seed_bytes
    → {digest rand : List ℕ} → digest ≡ message_digest set message → rand ≡ rand_of set (take (g - y) (drop y secret)) r digest
    → Hashed set secret message r digest rand
unfolding secret_seed_y
hashed set secret r message {y} {g} d f e h = record { digest_is = e; rand_is = h ∙ rw (e, size, d) }
  where
    size : g - y ≡ seed_bytes
    size = omega arith

-- ---- what was found is signed

pub sign_found : (set : Numbers) (secret message r : List ℕ) (budget : ℕ) {digest rand old new : List ℕ} {number counter : ℕ}
    → Hashed set secret message r digest rand
    → Gives set 0 (search (attempt set (key_of set secret) digest rand) budget) old new number counter
    → Gives set 0 (sign_search set secret message r budget) old new number counter
unfolding sign_search
sign_found set secret message r budget h f = rw (h.digest_is, h.rand_is) at f

-- ---- a message in two pieces

pub joined_length : (front rest : List ℕ) → length front + length rest ≡ length (front ++ rest)
joined_length front rest = sym (length-append front rest)

-- ---- the tests' answer, for a message of so many bytes

module _ (set : Numbers) (secret r old : List ℕ) (budget messageLength : ℕ) where
  pub search_asked : Answered (sign_tests set secret messageLength (length r) budget (length old)) 0 → Good set → SearchesKey set secret budget old
  unfolding sign_tests begin_tests secrets_tests byte_tests AllPass every
  search_asked t good =
      let p = passed_ok t refl in
      record {
        whole = record { good = good; long = eqb-true _ _ p.1.0 };
        few = leb-true _ _ p.1.1.1.1.1.1.0;
        signature_long = eqb-true _ _ p.0;
      }
