-- Demand 3: what the signer issues, the checker accepts.
--     demand_3     let key making accept s, e, seed_a and seed_y, and let the message, r, the budget and the signature buffer be as document 01
--                  names them. Then signing with the secret record that key making made answers 0 or 8: 0 exactly if some counter from 1
--                  to the budget passes, 8 exactly if none does. Where it answers 0, the counter is the smallest that passes, the
--                  signature record is of that attempt's z and c', and checking it with the public record that key making made and that
--                  message accepts.
--     searched     the first part for any secret record that passes signing's tests
-- Both hold for every good set; `set_i_demand_3` has the first at set I. What signing answers and leaves is what its promise, `Signs`, says. The
-- premises can be met: `signs_met`, and `zeros_accepted` for key making's tests. Where signing answered 0 its inputs were as they should be, what it
-- wrote was issued, and is accepted: `signed_asked`, `signed_issued`, `signed_accepted`.
-- Assumes nothing.
use Rattle.std.specs.Prelude.{◌≡◌, ◌⊎◌, ◌↔◌, List, ℕ, zero, suc, ◌≤◌, ◌<◌, length, replicate, ℤ}
use Rattle.std.proofs.Math.Path.{refl}
use Rattle.std.proofs.Common.{inl, inr, arith}
use borrow.Author.Tests.{eqb-true, leb-true}
use Rattle.whole.specs.Every.{every, each_below}
use Rattle.whole.specs.Twos.{signed}
use Rattle.answers.specs.Tests.{answer}
use Rattle.answers.specs.TestLaws.{passes_at}
use Rattle.ring.specs.Largest.{sum_passes, places, push, added}
use Rattle.sets.specs.declared.Numbers.{Numbers}
use Rattle.sets.specs.Good.{Good}
use Rattle.sets.specs.SetI.{set_i, set_i_good}
use Rattle.sampling.specs.Streams.{message_digest, rand_of}
use Rattle.records.specs.Secret.{secret_seed_y, in_byte_range, byte_tests}
use Rattle.signatures.specs.Signature.{signature_record}
use Rattle.keys.specs.Key.{public_of, secret_of, each_e_passes, secrets_tests, make_key_tests}
use Rattle.keys.specs.Made.{Accepted}
use Rattle.keys.specs.MadeLaws.{key_accepted}
use Rattle.attempts.specs.Attempt.{Outcome, passes, fails, overflows}
use Rattle.signing.specs.Search.{Found, found, none, overflow, search}
use Rattle.signing.specs.SearchLaws.{Stopped, found_smallest, none_fails, overflow_somewhere}
use Rattle.signing.specs.Sign.{Asked, begin_tests, sign_tests, sign_attempts, sign_search, gives_back}
use Rattle.signing.specs.Promises.{Gives, Signs}
use Rattle.signing.specs.OwnKeyLaws.{own_key, own_key_passes}
use Rattle.checking.specs.Check.{check_tests}
use Rattle.demands.specs.Never10.{never_overflows}
use Rattle.demands.specs.Holds.{accepted}

-- ---- what is said

-- an attempt passes, with some z and c'
abbrev pub Passes : Outcome → Type 0
Passes o = (z : List ℤ) × (c' : List ℕ) × (o ≡ passes z c')

-- some counter from 1 to the budget passes; none does
abbrev pub SomePasses : (ℕ → Outcome) → ℕ → Type 0
SomePasses attempts budget = (j : ℕ) × (1 ≤ j) × (j ≤ budget) × Passes (attempts j)

abbrev pub NonePasses : (ℕ → Outcome) → ℕ → Type 0
NonePasses attempts budget = (j : ℕ) → 1 ≤ j → j ≤ budget → Passes (attempts j) → ⊥

-- a signature that was issued: the counter is the smallest that passes, and z and c' are that attempt's
pub record Issued (set : Numbers) (attempts : ℕ → Outcome) (budget counter : ℕ) (signature : List ℕ) : Type 0 where
  pub z : List ℤ
  pub c' : List ℕ
  pub counter_some : 1 ≤ counter
  pub counter_within : counter ≤ budget
  pub passed : attempts counter ≡ passes z c'
  pub smallest : (j : ℕ) → 1 ≤ j → j < counter → Passes (attempts j) → ⊥
  pub written : signature ≡ signature_record set z c'

-- what signing answers and leaves
pub record Searched (set : Numbers) (attempts : ℕ → Outcome) (budget : ℕ) (signature : List ℕ) (number counter : ℕ) : Type 0 where
  -- 0 or 8, and nothing else
  pub signed_or_none : (number ≡ 0) ⊎ (number ≡ 8)
  pub signed_exactly : (number ≡ 0) ↔ SomePasses attempts budget
  pub none_exactly : (number ≡ 8) ↔ NonePasses attempts budget
  pub issued : number ≡ 0 → Issued set attempts budget counter signature

-- demand 3
pub record Demand3 (set : Numbers) (s e seed_a seed_y message r : List ℕ) (budget : ℕ) (signature : List ℕ) (number counter : ℕ) : Type 0 where
  pub search : Searched set (sign_attempts set (secret_of set s e seed_a seed_y) message r) budget signature number counter
  pub accepted : number ≡ 0 → answer (check_tests set (public_of set s e seed_a) message signature) ≡ 0

-- ---- signing with any secret record

passes_fails : {o : Outcome} → o ≡ fails → Passes o → ⊥
passes_fails f (z, c', p) = let x : ◌≡◌ {A = ℕ} 0 1 = cc in omega arith

module _ (set : Numbers) (attempts : ℕ → Outcome) (fit : (j : ℕ) → attempts j ≡ overflows → ⊥) (budget : ℕ) {old signature : List ℕ} {number counter : ℕ} where
  -- what a search gives back, by what it finds
  ended : (f : Found) → search attempts budget ≡ f → Gives set 0 f old signature number counter → Searched set attempts budget signature number counter
  ended (found at z c') e g =
      record {
        signed_or_none = inl g.number_is;
        signed_exactly = (λ _. (at, stopped.inside_low, omega (arith, stopped.inside_high), (z, c', stopped.here)), λ _. g.number_is);
        none_exactly = (λ h. absurd (omega (arith, g.number_is)), λ h. absurd (h at stopped.inside_low (omega (arith, stopped.inside_high)) (z, c', stopped.here)));
        issued = λ _. rw g.counter_is issue;
      }
    where
      stopped : Stopped attempts budget 1 at (passes z c')
      stopped = found_smallest attempts budget 1 at z c' e

      issue : Issued set attempts budget at signature
      issue =
          record {
            z = z;
            c' = c';
            counter_some = stopped.inside_low;
            counter_within = omega (arith, stopped.inside_high);
            passed = stopped.here;
            smallest = λ j l m. passes_fails (stopped.before j l m);
            written = g.signature_is;
          }
  ended none e g =
      record {
        signed_or_none = inr g.number_is;
        signed_exactly = (λ h. absurd (omega (arith, g.number_is)), λ h. absurd (fail h.0 h.1 h.2 h.3));
        none_exactly = (λ _. fail, λ _. g.number_is);
        issued = λ h. absurd (omega (arith, g.number_is));
      }
    where
      fail : NonePasses attempts budget
      fail j l m = passes_fails (none_fails attempts budget 1 e j l (omega arith))
  ended overflow e g = absurd (fit o.0 o.1)
    where
      o : (j : ℕ) × (attempts j ≡ overflows)
      o = overflow_somewhere attempts budget 1 e

pub searched : (set : Numbers) → Good set → (secret message r old signature : List ℕ) (budget number counter : ℕ)
    → answer (sign_tests set secret (length message) (length r) budget (length old)) ≡ 0
    → Signs set secret message r budget old signature number counter
    → Searched set (sign_attempts set secret message r) budget signature number counter
unfolding sign_search
searched set good secret message r old signature budget number counter passed signs =
    ended set (sign_attempts set secret message r) (never_overflows set good _ _ _) budget
    (search (sign_attempts set secret message r) budget) refl (rw passed at signs)

-- ---- signing with the key that key making made

pub demand_3 : (set : Numbers) → Good set → (s e seed_a seed_y message r old signature : List ℕ) (budget public_length secret_length number counter : ℕ)
    → answer (make_key_tests set s e seed_a seed_y public_length secret_length) ≡ 0
    → Asked set message r budget old
    → Signs set (secret_of set s e seed_a seed_y) message r budget old signature number counter
    → Demand3 set s e seed_a seed_y message r budget signature number counter
demand_3 set good s e seed_a seed_y message r old signature budget public_length secret_length number counter made asked signs =
    record { search = searching; accepted = λ h. accepts (searching.issued h) }
  where
    secret : List ℕ
    secret = secret_of set s e seed_a seed_y

    key : Accepted set s e seed_a seed_y
    key = key_accepted set s e seed_a seed_y public_length secret_length made

    searching : Searched set (sign_attempts set secret message r) budget signature number counter
    searching = searched set good secret message r old signature budget number counter (own_key_passes set s e seed_a seed_y key message r budget old asked) signs

    -- what an attempt that passed gives, checking accepts
    accepts : Issued set (sign_attempts set secret message r) budget counter signature → answer (check_tests set (public_of set s e seed_a) message signature) ≡ 0
    accepts i =
        rw i.written
        (accepted set good s e seed_a seed_y message key asked.message_short (rand_of set (secret_seed_y set secret) r (message_digest set message)) counter i.z i.c'
        (rw (own_key set s e seed_a seed_y key) at i.passed))

-- what signing gives back meets its promise, in every set: the premise `Signs` can be met
pub signs_met : (set : Numbers) (secret message r old : List ℕ) (budget : ℕ)
    → let back = gives_back set (answer (sign_tests set secret (length message) (length r) budget (length old))) (sign_search set secret message r budget) old in
    Signs set secret message r budget old back.signature back.number back.counter
signs_met set secret message r old budget = record { number_is = refl; counter_is = refl; signature_is = refl }

-- ---- in set I

-- key making can accept: the key of zeros is one
pub zeros_accepted : answer (make_key_tests set_i (replicate 1024 0) (replicate 4096 0) (replicate 32 0) (replicate 32 0) 14882 5226) ≡ 0
unfolding answer make_key_tests secrets_tests byte_tests in_byte_range every each_e_passes each_below sum_passes places push added signed
zeros_accepted = refl

pub set_i_demand_3 : (s e seed_a seed_y message r old signature : List ℕ) (budget public_length secret_length number counter : ℕ)
    → answer (make_key_tests set_i s e seed_a seed_y public_length secret_length) ≡ 0
    → Asked set_i message r budget old
    → Signs set_i (secret_of set_i s e seed_a seed_y) message r budget old signature number counter
    → Demand3 set_i s e seed_a seed_y message r budget signature number counter
set_i_demand_3 = demand_3 set_i set_i_good

-- ---- a signer that answered 0

module _ (set : Numbers) (secret message r old signature : List ℕ) (budget counter : ℕ) (signs : Signs set secret message r budget old signature 0 counter) where
  -- its tests passed
  pub signed_passed : answer (sign_tests set secret (length message) (length r) budget (length old)) ≡ 0
  signed_passed = done (answer (sign_tests set secret (length message) (length r) budget (length old))) (sign_search set secret message r budget) signs.number_is
    where
      done : (refusal : ℕ) (f : Found) → 0 ≡ (gives_back set refusal f old).number → refusal ≡ 0
      done zero f h = refl
      done (suc refusal) f h = absurd (omega arith)

  -- every input was as `Asked` names it
  pub signed_asked : Asked set message r budget old
  unfolding byte_tests secrets_tests begin_tests sign_tests every
  signed_asked =
      let at = passes_at (sign_tests set secret (length message) (length r) budget (length old)) refl signed_passed in
      record {
        message_short = leb-true _ _ (at 4);
        r_long = eqb-true _ _ (at 2);
        budget_some = leb-true _ _ (at 5);
        budget_few = leb-true _ _ (at 6);
        signature_long = eqb-true _ _ (at 0);
      }

  -- what it wrote was issued
  pub signed_issued : Good set → Issued set (sign_attempts set secret message r) budget counter signature
  signed_issued good = (searched set good secret message r old signature budget 0 counter signed_passed signs).issued refl

-- so what it wrote with a key that key making made is accepted: that the rest was as `Asked` names it follows from the answer
pub signed_accepted : (set : Numbers) → Good set → (s e seed_a seed_y message r old signature : List ℕ) (budget public_length secret_length counter : ℕ)
    → answer (make_key_tests set s e seed_a seed_y public_length secret_length) ≡ 0
    → Signs set (secret_of set s e seed_a seed_y) message r budget old signature 0 counter
    → answer (check_tests set (public_of set s e seed_a) message signature) ≡ 0
signed_accepted set good s e seed_a seed_y message r old signature budget public_length secret_length counter made signs =
    (demand_3 set good s e seed_a seed_y message r old signature budget public_length secret_length 0 counter made
    (signed_asked set (secret_of set s e seed_a seed_y) message r old signature budget counter signs) signs).accepted refl
