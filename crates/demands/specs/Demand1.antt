-- Demand 1: the answer is n exactly if the test with the number n is the first that fails, in the order in which the entry's tests stand; where
-- the numbers rise that is the lowest number that applies; and a refusal leaves each output as it was.
-- An entry's promise says `Answered` of its list of tests, and `Output` of that list for each output. `entries` is the table of the entries with
-- their lists, and `demand_1` says the first part of all of them; `untouched` is the last. Signing's search stands in its list as two tests more, 10 and
-- then 8 (`sign_answered`); what signing leaves on refusal is `sign_untouched`. Opening and reading an envelope test in an order of their own, and the
-- program makes one test before opening's.
-- Assumes nothing.
use Rattle.std.specs.Prelude.{◌≡◌, refl, Bool, true, false, ◌↔◌, List, [], ◌∷◌, ◌++◌, ℕ, zero, suc, ℤ, length}
use Rattle.std.proofs.Common.{sym, ◌∙◌, true≢false, arith}
use Rattle.whole.specs.Every.{every}
use Rattle.answers.specs.Tests.{Test, ◌or_else◌, answer, AllPass, numbered, Answered, Output}
use Rattle.answers.specs.TestLaws.{all_pass, passes_all, answer_before, answer_past, after_refused}
use Rattle.sets.specs.declared.Numbers.{Numbers}
use Rattle.sampling.specs.Streams.{roster_message}
use Rattle.sampling.specs.Lent.{tests_a, tests_y, tests_enc}
use Rattle.records.specs.Public.{public_tests, read_public_tests, write_public_tests}
use Rattle.records.specs.Secret.{byte_tests, secret_tests, read_secret_tests, write_secret_tests}
use Rattle.signatures.specs.Signature.{signature_tests, read_signature_tests, write_signature_tests}
use Rattle.keys.specs.Key.{secrets_tests, make_key_tests}
use Rattle.signing.specs.Search.{Found, found, none, overflow}
use Rattle.signing.specs.Sign.{begin_tests, sign_tests, sign_search, gives_back}
use Rattle.signing.specs.Promises.{Gives, Signs}
use Rattle.checking.specs.Check.{input_tests, high_tests, hash_tests, work_tests, digest_tests, check_tests}
use Rattle.envelope.specs.Envelope.{head_tests, read_tests, open_tests, write_tests}
use Rattle.envelope.specs.Program.{program_tests}
use Rattle.demands.specs.FirstTest.{FirstFailing, first_failing, failing_first, rises, are_rising, AtLeast, lowest}
use Rattle.demands.specs.Facts.{◌and◌}

-- a refusal leaves an output as it was: a buffer as the caller lent it, a team number and a length 0
pub untouched : {A : Type 0} {ts : List Test} {number : ℕ} {new old now : A} → Answered ts (suc number) → Output ts new old now → now ≡ old
untouched {number = number} {new} {old} a o = o.is ∙ after_refused number new old (sym a.is)

-- ---- signing

-- what signing's search adds to its tests: 10 if a counter that was tried meets it, else 8 if none passes
abbrev pub found_tests : Found → List Test
found_tests (found counter z c') = (true or_else 10) ∷ (true or_else 8) ∷ []
found_tests none = (true or_else 10) ∷ (false or_else 8) ∷ []
found_tests overflow = (false or_else 10) ∷ (true or_else 8) ∷ []

-- so the number that signing answers is that of one list too
pub sign_answered : (set : Numbers) (secret message r old signature : List ℕ) (budget number counter : ℕ) → Signs set secret message r budget old signature number counter
    → Answered (sign_tests set secret (length message) (length r) budget (length old) ++ found_tests (sign_search set secret message r budget)) number
unfolding answer every byte_tests secrets_tests begin_tests sign_tests
sign_answered set secret message r old signature budget number counter signs =
    record { is = signs.number_is ∙ go (answer tests) refl (sign_search set secret message r budget) }
  where
    tests : List Test
    tests = sign_tests set secret (length message) (length r) budget (length old)

    go : (refusal : ℕ) → answer tests ≡ refusal → (f : Found) → (gives_back set refusal f old).number ≡ answer (tests ++ found_tests f)
    go zero e (found counter z c') = sym (answer_past tests (found_tests (found counter z c')) refl e)
    go zero e none = sym (answer_past tests (found_tests none) refl e)
    go zero e overflow = sym (answer_past tests (found_tests overflow) refl e)
    go (suc m) e f = sym (answer_before m tests (found_tests f) e)

-- on refusal the signature buffer is as it was, and the counter is 0
pub sign_untouched : (set : Numbers) (secret message r old signature : List ℕ) (budget number counter : ℕ) → Signs set secret message r budget old signature (suc number) counter
    → (signature ≡ old) × (counter ≡ 0)
sign_untouched set secret message r old signature budget number counter signs =
    go (answer (sign_tests set secret (length message) (length r) budget (length old))) (sign_search set secret message r budget) signs
  where
    go : (refusal : ℕ) (f : Found) → Gives set refusal f old signature (suc number) counter → (signature ≡ old) × (counter ≡ 0)
    go zero (found at z c') g = absurd (omega (arith, g.number_is))
    go zero none g = (g.signature_is, g.counter_is)
    go zero overflow g = (g.signature_is, g.counter_is)
    go (suc refusal) f g = (g.signature_is, g.counter_is)

-- ---- the entries

-- an entry: what its tests speak of, the tests, and whether their numbers rise
pub record Entry : Type 1 where
  pub Lent : Type 0
  pub tests : Lent → List Test
  pub rising : Bool

-- the lowest number that applies is answered; an entry with an order of its own
abbrev lowest_first : {A : Type 0} → (A → List Test) → Entry
lowest_first {A} f = record { Lent = A; tests = f; rising = true }

abbrev in_order : {A : Type 0} → (A → List Test) → Entry
in_order {A} f = record { Lent = A; tests = f; rising = false }

-- every entry that answers a number, with its tests: lists are what is lent, numbers are a budget and the lengths of outputs
unfoldable pub entries : Numbers → List Entry
entries set =
    -- sampling: take_a, take_y, take_positions
    lowest_first (λ (x : List ℕ × ℕ). tests_a x.0 x.1)
    ∷ lowest_first (λ (x : List ℕ × ℕ). tests_y x.0 x.1)
    ∷ lowest_first (λ (x : List ℕ × ℕ × ℕ). tests_enc set x.0 x.1 x.2)
    -- records: write_public, read_public, write_secret, read_secret
    ∷ lowest_first (λ (x : List ℕ × List ℕ × ℕ). write_public_tests set x.0 x.1 x.2)
    ∷ lowest_first (λ (x : List ℕ × ℕ × ℕ). read_public_tests set x.0 x.1 x.2)
    ∷ lowest_first (λ (x : List ℕ × List ℕ × List ℕ × List ℕ × List ℕ × ℕ). write_secret_tests set x.0 x.1 x.2 x.3 x.4 x.5)
    ∷ lowest_first (λ (x : List ℕ × ℕ × ℕ × ℕ × ℕ × ℕ). read_secret_tests set x.0 x.1 x.2 x.3 x.4 x.5)
    -- signatures: write_signature, read_signature
    ∷ lowest_first (λ (x : List ℤ × List ℕ × ℕ). write_signature_tests set x.0 x.1 x.2)
    ∷ lowest_first (λ (x : List ℕ × ℕ × ℕ). read_signature_tests set x.0 x.1 x.2)
    -- keys: make_key
    ∷ lowest_first (λ (x : List ℕ × List ℕ × List ℕ × List ℕ × ℕ × ℕ). make_key_tests set x.0 x.1 x.2 x.3 x.4 x.5)
    -- signing: sign, of a secret record, a message, r, the budget and the signature's length; its tests by themselves, and with its search
    ∷ lowest_first (λ (x : List ℕ × List ℕ × List ℕ × ℕ × ℕ). sign_tests set x.0 (length x.1) (length x.2) x.3 x.4)
    ∷ in_order
    (λ (x : List ℕ × List ℕ × List ℕ × ℕ × ℕ). sign_tests set x.0 (length x.1) (length x.2) x.3 x.4 ++ found_tests (sign_search set x.0 x.1 x.2 x.3))
    -- signing: sign_roster, of a secret record, the team number, a roster, r, the budget and the signature's length; the same two
    ∷ lowest_first (λ (x : List ℕ × ℕ × List ℕ × List ℕ × ℕ × ℕ). sign_tests set x.0 (length (roster_message x.1 x.2)) (length x.3) x.4 x.5)
    ∷ in_order
    (λ (x : List ℕ × ℕ × List ℕ × List ℕ × ℕ × ℕ). sign_tests set x.0 (length (roster_message x.1 x.2)) (length x.3) x.4 x.5 ++ found_tests (sign_search set x.0 (roster_message x.1 x.2) x.3 x.4))
    -- checking: check, and check_digest, of a public record, the message's length, G of it and a signature record
    ∷ lowest_first (λ (x : List ℕ × List ℕ × List ℕ). check_tests set x.0 x.1 x.2)
    ∷ lowest_first (λ (x : List ℕ × ℕ × List ℕ × List ℕ). digest_tests set x.0 x.1 x.2 x.3)
    -- envelope: write, read, open
    ∷ lowest_first (λ (x : List ℕ × List ℕ × ℕ). write_tests set x.0 x.1 x.2)
    ∷ in_order (λ (envelope : List ℕ). read_tests set envelope)
    ∷ in_order (λ (x : List ℕ × List ℕ). open_tests set x.0 x.1)
    -- envelope: open_input, the program's core, in set I
    ∷ in_order (λ (input : List ℕ). program_tests input)
    ∷ []

-- what demand 1 says of the number that an entry with these tests answered
pub record Demand1 (rising : Bool) (ts : List Test) (answered : ℕ) : Type 0 where
  pub done_exactly : (answered ≡ 0) ↔ AllPass ts
  pub refused_exactly : (number : ℕ) → (answered ≡ suc number) ↔ FirstFailing ts (suc number)
  pub lowest_applies : rising ≡ true → (number : ℕ) → answered ≡ suc number → AtLeast (suc number) ts

-- every entry of a table
abbrev pub Each : (Entry → Type 0) → List Entry → Type 0
Each P [] = Unit {0}
Each P (x ∷ xs) = P x × Each P xs

said : (rising : Bool) (ts : List Test) → numbered ts ≡ true → (rising ≡ true → rises ts ≡ true) → (answered : ℕ) → Answered ts answered → Demand1 rising ts answered
said rising ts n r answered a =
    rw a.is (record {
      done_exactly = (passes_all ts n, all_pass ts);
      refused_exactly = λ number. (first_failing ts number, failing_first ts (suc number));
      lowest_applies = λ e number h. lowest ts (suc number) (are_rising ts (r e)) (first_failing ts number h);
    })

-- an entry with an order of its own has nothing to show
own_order : {A : Type 0} → false ≡ true → A
own_order e = absurd (true≢false (sym e))

found_numbered : (f : Found) → numbered (found_tests f) ≡ true
unfolding every
found_numbered (found counter z c') = refl
found_numbered none = refl
found_numbered overflow = refl

pub demand_1 : (set : Numbers) → Each (λ entry. (lent : entry.Lent) (number : ℕ) → Answered (entry.tests lent) number → Demand1 entry.rising (entry.tests lent) number) (entries set)
unfolding entries every public_tests read_public_tests write_public_tests byte_tests secret_tests read_secret_tests write_secret_tests signature_tests read_signature_tests write_signature_tests secrets_tests make_key_tests begin_tests sign_tests input_tests high_tests hash_tests work_tests digest_tests check_tests write_tests read_tests open_tests head_tests program_tests
demand_1 set =
    (λ x. said true _ refl (λ _. refl))
    and (λ x. said true _ refl (λ _. refl))
    and (λ x. said true _ refl (λ _. refl))
    and (λ x. said true _ refl (λ _. refl))
    and (λ x. said true _ refl (λ _. refl))
    and (λ x. said true _ refl (λ _. refl))
    and (λ x. said true _ refl (λ _. refl))
    and (λ x. said true _ refl (λ _. refl))
    and (λ x. said true _ refl (λ _. refl))
    and (λ x. said true _ refl (λ _. refl))
    and (λ x. said true _ refl (λ _. refl))
    and (λ x. said false _ (found_numbered (sign_search set x.0 x.1 x.2 x.3)) own_order)
    and (λ x. said true _ refl (λ _. refl))
    and (λ x. said false _ (found_numbered (sign_search set x.0 (roster_message x.1 x.2) x.3 x.4)) own_order)
    and (λ x. said true _ refl (λ _. refl))
    and (λ x. said true _ refl (λ _. refl))
    and (λ x. said true _ refl (λ _. refl))
    and (λ x. said false _ refl own_order)
    and (λ x. said false _ refl own_order)
    and (λ x. said false _ refl own_order)
    and tt
