-- Reading and opening: the tests that follow the head's, over the parts that the code lends, and what comes back with an answer.
-- Assumes nothing.
use mathlib.Core.Path.{◌≡◌, refl, sym, ◌∙◌}
use mathlib.Core.List.{List, [], ◌∷◌, ◌++◌}
use Prim.Native.Nat.{ℕ, ◌+◌}
use Rattle.std.specs.Prelude.{Result, IsErrAnd}
use Rattle.std.proofs.lemmas.Result.{err_from_is_err_and}
use Rattle.answers.specs.declared.Refusal.{Refusal}
use Rattle.answers.specs.Answers.{refusal_number, number_of}
use Rattle.answers.specs.Tests.{Test, ◌or_else◌, Answered}
use Rattle.answers.specs.OutputLaws.{made}
use Rattle.answers.specs.ResultLaws.{kept_err}
use Rattle.sets.specs.declared.Numbers.{Numbers}
use Rattle.sets.specs.SetI.{set_i}
use Rattle.sampling.specs.Streams.{message_digest}
use Rattle.records.specs.Layout.{marked, stretch, signature_bytes}
use Rattle.signatures.specs.Signature.{z_of, z_in_range}
use Rattle.checking.specs.Check.{digest_tests, check_tests}
use Rattle.envelope.specs.Envelope.{head_bytes, team_bytes, length_of, roster_of, message_of, signature_of, head_tests, read_tests}
use Rattle.envelope.specs.EnvelopeLaws.{message_of_length}
use Rattle.envelope.specs.declared.Opened.{Opened}
use Rattle.envelope.specs.Promises.{Opens, opened, opened_team, opened_len}

-- ---- the tests that follow

pub signed_read : (s : Numbers) (envelope : List ℕ) {signature : List ℕ} {len number : ℕ} → len ≡ length_of envelope
    → signature ≡ stretch (head_bytes + len) (signature_bytes s) envelope
    → Answered ((marked s 3 signature or_else 2) ∷ (z_in_range s (z_of s signature) or_else 9) ∷ []) number
    → Answered ((marked s 3 (signature_of s envelope) or_else 2) ∷ (z_in_range s (z_of s (signature_of s envelope)) or_else 9) ∷ []) number
unfolding signature_of
signed_read s envelope e f a = rw (f, e) at a

-- G of the two pieces that the code lends is G of the message
pub message_hashed : (set : Numbers) (envelope : List ℕ) {team roster digest : List ℕ} {len : ℕ} → team ≡ team_bytes envelope → len ≡ length_of envelope
    → roster ≡ stretch head_bytes len envelope → digest ≡ message_digest set (team ++ roster) → digest ≡ message_digest set (message_of envelope)
unfolding message_of roster_of
message_hashed set envelope e f g h = h ∙ rw (e, g, f)

-- checking over the length and G of the message is checking the message, where the head passed
pub checked_opened : {set : Numbers} (public envelope : List ℕ) {digest signature : List ℕ} {len number : ℕ} → set ≡ set_i
    → Answered (head_tests set envelope) 0 → len ≡ length_of envelope
    → digest ≡ message_digest set (message_of envelope) → signature ≡ stretch (head_bytes + len) (signature_bytes set) envelope
    → Answered (digest_tests set_i public (2 + len) digest signature) number → Answered (check_tests set_i public (message_of envelope) (signature_of set_i envelope)) number
unfolding signature_of check_tests
checked_opened {set} public envelope s head f g i a =
    rw (message_of_length set envelope (sym head.is), ← f) (rw (g, i, s) at a)

-- ---- what comes back

-- nothing was refused
pub opens_ok : {ts : List Test} (envelope : List ℕ) {o : Opened} → Answered ts 0 → o ≡ opened envelope → Opens ts envelope 0 o.team o.len
opens_ok envelope a e = rw e (record { answered = a; team_is = made a refl; len_is = made a refl })

-- a refusal went on
pub opens_err : {ts : List Test} (envelope : List ℕ) (refusal : Refusal) (r : Result Opened Refusal) → Answered ts (refusal_number refusal)
    → IsErrAnd r (λ other. other ≡ refusal) → Opens ts envelope (number_of r) (opened_team r) (opened_len r)
opens_err {ts} envelope refusal r a e =
    let p = err_from_is_err_and r e in
    rw (p.1, p.2) (record { answered = a; team_is = kept_err refusal a; len_is = kept_err refusal a })

-- ---- set I

pub read_i : {s : Numbers} (envelope : List ℕ) {number : ℕ} → s ≡ set_i → Answered (read_tests s envelope) number
    → Answered (read_tests set_i envelope) number
read_i envelope i a = rw i at a

pub signature_i : {s : Numbers} (envelope : List ℕ) (len : ℕ) {out : List ℕ} → s ≡ set_i
    → out ≡ stretch (head_bytes + len) (signature_bytes s) envelope → out ≡ stretch (head_bytes + len) (signature_bytes set_i) envelope
signature_i envelope len i f = rw i at f
