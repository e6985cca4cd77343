-- A roster that was signed under its team number is delivered: writing both into an envelope is not refused, and opening that envelope with
-- the matching public record accepts and answers the same team number and roster, in every good set (`roster_delivered`).
-- The team number is signed: `opens_exactly`, opening accepts an envelope exactly if its head is right and checking accepts its signature on
-- its own team bytes followed by its roster; `opened_signed`, so the team number and the roster that come back were signed;
-- `renumbered_exactly`, an envelope whose number was changed is accepted exactly if its head is right and the signature holds for the roster
-- under that other number, which is another message: `message_one`. `roster_limit_lem`: the two limits agree.
-- Assumes nothing.
use Rattle.std.specs.Prelude.{◌≡◌, refl, ◌↔◌, List, [], ◌∷◌, ◌++◌, ℕ, zero, suc, ◌≤◌, ◌<◌, leb, length, get_or, take, drop}
use Rattle.std.proofs.Common.{sym, ap, ap₂, ◌∙◌, arith, drop-drop, eqb-true, leb-true}
use Rattle.answers.specs.Tests.{Test, answer}
use Rattle.whole.specs.Below.{Below}
use Rattle.whole.specs.Every.{every}
use Rattle.whole.specs.TestsAlike.{leb_alike}
use Rattle.answers.specs.TestLaws.{passes_at, after_done, answer_before, answer_past}
use Rattle.sets.specs.declared.Numbers.{Numbers}
use Rattle.sets.specs.Good.{Good}
use Rattle.sets.specs.Limits.{seed_bytes, message_limit, roster_limit, budget_limit}
use Rattle.sampling.specs.Streams.{two_bytes, roster_message}
use Rattle.sampling.specs.TwoBytesLaws.{two_one}
use Rattle.records.specs.Layout.{marked, signature_bytes}
use Rattle.keys.specs.Key.{public_of, secret_of, make_key_tests}
use Rattle.signing.specs.Sign.{Asked}
use Rattle.signing.specs.Promises.{Signs}
use Rattle.checking.specs.Check.{input_tests, high_tests, hash_tests, work_tests, digest_tests, check_tests}
use Rattle.envelope.specs.Envelope.{head_bytes, envelope_bytes, envelope_of, head_tests, open_tests, write_tests, team_of, length_of, roster_of, message_of, signature_of, team_answered, length_answered, roster_answered}
use Rattle.envelope.specs.Asks.{Writable}
use Rattle.envelope.specs.EnvelopeLaws.{head_numbered, message_again, writable_passes, envelope_opens, envelope_team, envelope_length_lem, envelope_roster}
use Rattle.demands.specs.Demand3.{signed_accepted}

-- ---- a roster that was signed is delivered

-- the tests that checking makes, and writing too
checked_writable : (set : Numbers) (public : List ℕ) (team : ℕ) (roster signature : List ℕ) → answer (check_tests set public (roster_message team roster) signature) ≡ 0
    → Writable set roster signature (envelope_bytes set (length roster))
unfolding input_tests high_tests hash_tests work_tests digest_tests check_tests every
checked_writable set public team roster signature h =
    let at = passes_at (check_tests set public (roster_message team roster) signature) refl h in
    record {
      signature_long = eqb-true (length signature) (signature_bytes set) (at 1);
      envelope_long = refl;
      signature_mark = at 3;
      short = omega (arith, leb-true (length (roster_message team roster)) message_limit (at 4));
      z_passes = at 6;
    }

-- The envelope of a team and a roster around a signature: writing it is not refused, and opening it with the public record
-- answers 0, the team and the roster.
pub record Delivered (set : Numbers) (public signature : List ℕ) (team : ℕ) (roster : List ℕ) : Type 0 where
  pub written : answer (write_tests set roster signature (envelope_bytes set (length roster))) ≡ 0
  pub opened : answer (open_tests set public (envelope_of set team roster signature)) ≡ 0
  pub team_answered_lem : team_answered (answer (open_tests set public (envelope_of set team roster signature))) (envelope_of set team roster signature) ≡ team
  pub length_answered_lem : length_answered (answer (open_tests set public (envelope_of set team roster signature))) (envelope_of set team roster signature) ≡ length roster
  pub roster_answered_lem : roster_answered (answer (open_tests set public (envelope_of set team roster signature))) (envelope_of set team roster signature) ≡ roster

pub roster_delivered : (set : Numbers) → Good set → (s e seed_a seed_y roster r old signature : List ℕ) (team budget public_length secret_length counter : ℕ) → team < 65536
    → answer (make_key_tests set s e seed_a seed_y public_length secret_length) ≡ 0
    → Signs set (secret_of set s e seed_a seed_y) (roster_message team roster) r budget old signature 0 counter
    → Delivered set (public_of set s e seed_a) signature team roster
roster_delivered set good s e seed_a seed_y roster r old signature team budget public_length secret_length counter t made signs =
    record {
      written = writable_passes set roster signature (envelope_bytes set (length roster)) writable;
      opened = opens;
      team_answered_lem = after_done (team_of (envelope_of set team roster signature)) 0 opens ∙ envelope_team set team roster signature t;
      length_answered_lem = after_done (length_of (envelope_of set team roster signature)) 0 opens ∙ envelope_length_lem set team roster signature (omega (arith, writable.short));
      roster_answered_lem = after_done (roster_of (envelope_of set team roster signature)) [] opens ∙ envelope_roster set team roster signature (omega (arith, writable.short));
    }
  where
    public : List ℕ
    public = public_of set s e seed_a

    checked : answer (check_tests set public (roster_message team roster) signature) ≡ 0
    checked = signed_accepted set good s e seed_a seed_y (roster_message team roster) r old signature budget public_length secret_length counter made signs

    writable : Writable set roster signature (envelope_bytes set (length roster))
    writable = checked_writable set public team roster signature checked

    opens : answer (open_tests set public (envelope_of set team roster signature)) ≡ 0
    opens = envelope_opens set team roster signature public writable.signature_long writable.short checked

-- ---- the two limits

-- a roster is within its limit exactly if the message that is signed is within its own
pub roster_limit_lem : (team : ℕ) (roster : List ℕ) → leb (length (roster_message team roster)) message_limit ≡ leb (length roster) roster_limit
roster_limit_lem team roster = leb_alike (length (roster_message team roster)) message_limit (length roster) roster_limit (λ h. omega arith) (λ h. omega arith)

-- what a signer of rosters is lent beside its key: as `Asked` has it, but a roster within its own limit
pub record RosterAsked (set : Numbers) (roster r : List ℕ) (budget : ℕ) (signature : List ℕ) : Type 0 where
  pub roster_short : length roster ≤ roster_limit
  pub r_long : length r ≡ seed_bytes
  pub budget_some : 1 ≤ budget
  pub budget_few : budget ≤ budget_limit
  pub signature_long : length signature ≡ signature_bytes set

pub roster_asked : (set : Numbers) (team : ℕ) {roster r : List ℕ} {budget : ℕ} {signature : List ℕ} → RosterAsked set roster r budget signature
    → Asked set (roster_message team roster) r budget signature
roster_asked set team a =
    record { message_short = omega (arith, a.roster_short); r_long = a.r_long; budget_some = a.budget_some; budget_few = a.budget_few; signature_long = a.signature_long }

-- ---- the team number is signed

pub opens_exactly : (set : Numbers) (public envelope : List ℕ)
    → (answer (open_tests set public envelope) ≡ 0)
    ↔ ((answer (head_tests set envelope) ≡ 0) × (answer (check_tests set public (message_of envelope) (signature_of set envelope)) ≡ 0))
unfolding open_tests
opens_exactly set public envelope =
    (λ h. go (answer heads) refl h, λ p. answer_past heads checks (head_numbered set envelope) p.0 ∙ p.1)
  where
    heads : List Test
    heads = head_tests set envelope

    checks : List Test
    checks = check_tests set public (message_of envelope) (signature_of set envelope)

    go : (n : ℕ) → answer heads ≡ n → answer (heads ++ checks) ≡ 0 → (answer heads ≡ 0) × (answer checks ≡ 0)
    go zero e h = (e, sym (answer_past heads checks (head_numbered set envelope) e) ∙ h)
    go (suc m) e h = absurd (let x : ◌≡◌ {A = ℕ} (suc m) 0 = sym (answer_before m heads checks e) ∙ h in omega arith)

-- so what comes back was signed: the signature holds for the team number and the roster that opening answers
pub opened_signed : (set : Numbers) (public envelope : List ℕ) → Below 256 envelope → answer (open_tests set public envelope) ≡ 0
    → answer (check_tests set public (roster_message (team_of envelope) (roster_of envelope)) (signature_of set envelope)) ≡ 0
opened_signed set public envelope bytes h =
    let p = (opens_exactly set public envelope).0 h in
    rw (← message_again set envelope bytes p.0) p.1

-- an envelope with another team number written over its own
unfoldable pub renumbered : ℕ → List ℕ → List ℕ
renumbered team envelope = take 2 envelope ++ (two_bytes team ++ drop 4 envelope)

-- all else that opening looks at is as it was
record Renumbered (set : Numbers) (team : ℕ) (envelope : List ℕ) : Type 0 where
  heads : answer (head_tests set (renumbered team envelope)) ≡ answer (head_tests set envelope)
  message : answer (head_tests set envelope) ≡ 0 → message_of (renumbered team envelope) ≡ roster_message team (roster_of envelope)
  signature : answer (head_tests set envelope) ≡ 0 → signature_of set (renumbered team envelope) ≡ signature_of set envelope

renumbering : (set : Numbers) (team : ℕ) (envelope : List ℕ) → Renumbered set team envelope
unfolding renumbered head_tests answer marked length_of roster_of message_of signature_of
renumbering set team [] = record { heads = refl; message = λ h. absurd (omega arith); signature = λ h. absurd (omega arith) }
renumbering set team (a ∷ []) = record { heads = refl; message = λ h. absurd (omega arith); signature = λ h. absurd (omega arith) }
renumbering set team (a ∷ b ∷ []) = record { heads = refl; message = λ h. absurd (omega arith); signature = λ h. absurd (omega arith) }
renumbering set team (a ∷ b ∷ c ∷ []) = record { heads = refl; message = λ h. absurd (omega arith); signature = λ h. absurd (omega arith) }
renumbering set team (a ∷ b ∷ c ∷ d ∷ rest) =
    record {
      heads = refl;
      message = λ h. refl;
      signature = λ h. sym (ap (take (signature_bytes set)) (drop-drop L head_bytes (renumbered team envelope))) ∙ ap (take (signature_bytes set)) (drop-drop L head_bytes envelope);
    }
  where
    envelope : List ℕ
    envelope = a ∷ b ∷ c ∷ d ∷ rest

    L : ℕ
    L = length_of envelope

pub renumbered_exactly : (set : Numbers) (public : List ℕ) (team : ℕ) (envelope : List ℕ)
    → (answer (open_tests set public (renumbered team envelope)) ≡ 0)
    ↔ ((answer (head_tests set envelope) ≡ 0) × (answer (check_tests set public (roster_message team (roster_of envelope)) (signature_of set envelope)) ≡ 0))
renumbered_exactly set public team envelope = (
  λ h. let p = exactly.0 h in let head = sym same.heads ∙ p.0 in (head, sym (checks head) ∙ p.1),
  λ p. exactly.1 (same.heads ∙ p.0, checks p.0 ∙ p.1),
)
  where
    same : Renumbered set team envelope
    same = renumbering set team envelope

    exactly : (answer (open_tests set public (renumbered team envelope)) ≡ 0)
        ↔ ((answer (head_tests set (renumbered team envelope)) ≡ 0) × (answer (check_tests set public (message_of (renumbered team envelope)) (signature_of set (renumbered team envelope))) ≡ 0))
    exactly = opens_exactly set public (renumbered team envelope)

    checks : answer (head_tests set envelope) ≡ 0 → answer (check_tests set public (message_of (renumbered team envelope)) (signature_of set (renumbered team envelope)))
        ≡ answer (check_tests set public (roster_message team (roster_of envelope)) (signature_of set envelope))
    checks h = ap₂ (λ (m g : List ℕ). answer (check_tests set public m g)) (same.message h) (same.signature h)

-- one message has one team number and one roster
pub message_one : (team other : ℕ) (roster other_roster : List ℕ) → team < 65536 → other < 65536 → roster_message team roster ≡ roster_message other other_roster
    → (team ≡ other) × (roster ≡ other_roster)
message_one team other roster other_roster t o e = (two_one team other t o (ap (λ (xs : List ℕ). get_or xs 0 0) e) (ap (λ (xs : List ℕ). get_or xs 1 0) e), ap (drop 2) e)
