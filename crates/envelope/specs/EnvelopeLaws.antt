-- Laws of the envelope: what is written reads back (`envelope_team`, `envelope_length_lem`, `envelope_roster`, `envelope_signature`), what
-- reads is what would be written (`envelope_again`), an envelope around a signature that checking accepts is opened
-- (`envelope_opens`), the signed message is that of the team number and the roster that come back (`message_again`), and the roster that comes
-- back is the stretch of the length that does (`roster_answered_lem`, `opens_roster`). RoundTripLaws states the first two from the entries' tests.
-- Assumes nothing.
use Rattle.std.specs.Prelude.{◌≡◌, true, ℕ, zero, suc, ◌+◌, ◌≤◌, ◌<◌, get_or, take, drop}
use Rattle.std.proofs.Math.Path.{refl, ap, ap₂}
use Rattle.std.proofs.Common.{sym, ◌∙◌, drop-cons}
use mathlib.Core.List.{List, [], ◌∷◌, ◌++◌}
use native.Mathlib.Omega.{arith}
use Rattle.std.proofs.Math.ListN.{length, length-append}
use Rattle.std.proofs.Math.Seq.{take_all, take_at}
use borrow.Author.Tests.{eq-eqb, eqb-true, le-leb, leb-true}
use Rattle.whole.specs.Below.{Below}
use Rattle.whole.specs.Parts.{part_length, part_second, part_last, parts_join}
use Rattle.whole.specs.Every.{every}
use Rattle.answers.specs.Tests.{Test, answer, after, numbered}
use Rattle.answers.specs.TestLaws.{answer_pass, answer_none, answer_past, passes_at}
use Rattle.sets.specs.declared.Numbers.{Numbers}
use Rattle.sets.specs.Limits.{roster_limit}
use Rattle.sampling.specs.Streams.{two_bytes, roster_message}
use Rattle.sampling.specs.TwoBytesLaws.{two_number, two_back}
use Rattle.records.specs.Layout.{mark, marked, stretch, signature_bytes}
use Rattle.records.specs.PublicLaws.{marked_mark, marked_front}
use Rattle.checking.specs.Check.{check_tests}
use Rattle.envelope.specs.Asks.{Writable}
use Rattle.envelope.specs.Promises.{Opens}
use Rattle.envelope.specs.Envelope.{envelope_kind, head_bytes, envelope_bytes, envelope_of, number_at, team_of, length_of, roster_of, message_of, signature_of, head_tests, open_tests, write_tests, length_answered, roster_answered}

-- no test of the head has the number 0
pub head_numbered : (s : Numbers) (envelope : List ℕ) → numbered (head_tests s envelope) ≡ true
unfolding head_tests every
head_numbered s envelope = refl

-- ---- what is written reads back

module _ (s : Numbers) (team : ℕ) (roster signature : List ℕ) where
  envelope_marked : marked s envelope_kind (envelope_of s team roster signature) ≡ true
  unfolding envelope_of
  envelope_marked = marked_mark s envelope_kind (two_bytes team ++ (two_bytes (length roster) ++ (roster ++ signature)))

  pub envelope_team : team < 65536 → team_of (envelope_of s team roster signature) ≡ team
  unfolding team_of envelope_of
  envelope_team h = two_number team h

  pub envelope_length_lem : length roster < 65536 → length_of (envelope_of s team roster signature) ≡ length roster
  unfolding length_of envelope_of
  envelope_length_lem h = two_number (length roster) h

  envelope_bytes_lem : length signature ≡ signature_bytes s → length (envelope_of s team roster signature) ≡ envelope_bytes s (length roster)
  unfolding envelope_of
  envelope_bytes_lem e = omega (arith, length-append roster signature)

  -- the bytes before the roster
  head : List ℕ
  head = mark s envelope_kind ++ (two_bytes team ++ two_bytes (length roster))

  front : stretch head_bytes (length roster) (envelope_of s team roster signature) ≡ roster
  unfolding envelope_of
  front = take_at roster signature (length roster) refl

  back : length signature ≡ signature_bytes s → stretch (head_bytes + length roster) (signature_bytes s) (envelope_of s team roster signature) ≡ signature
  unfolding envelope_of head
  back e =
      part_second head_bytes (length roster) (signature_bytes s) head (roster ++ signature) refl
      ∙ part_last (length roster) (signature_bytes s) roster signature refl e

  module _ (short : length roster < 65536) where
    pub envelope_roster : roster_of (envelope_of s team roster signature) ≡ roster
    unfolding roster_of
    envelope_roster = ap (λ (n : ℕ). stretch head_bytes n (envelope_of s team roster signature)) (envelope_length_lem short) ∙ front

    envelope_message : message_of (envelope_of s team roster signature) ≡ roster_message team roster
    unfolding message_of envelope_of
    envelope_message = ap (λ (xs : List ℕ). two_bytes team ++ xs) envelope_roster

    pub envelope_signature : length signature ≡ signature_bytes s → signature_of s (envelope_of s team roster signature) ≡ signature
    unfolding signature_of
    envelope_signature e =
        ap (λ (n : ℕ). stretch (head_bytes + n) (signature_bytes s) (envelope_of s team roster signature)) (envelope_length_lem short) ∙ back e

  -- ---- an envelope around a signature that checking accepts is opened

  -- its head passes
  pub envelope_head : length signature ≡ signature_bytes s → length roster ≤ roster_limit → answer (head_tests s (envelope_of s team roster signature)) ≡ 0
  unfolding head_tests
  envelope_head e short =
      let inside : length roster < 65536 = omega arith in
      answer_pass 1 _ (le-leb head_bytes (length (envelope_of s team roster signature)) (omega (arith, envelope_bytes_lem e)))
      ∙ answer_pass 2 _ envelope_marked
      ∙ answer_pass 3 _ (le-leb (length_of (envelope_of s team roster signature)) roster_limit (omega (arith, envelope_length_lem inside)))
      ∙ answer_pass 1 _ (eq-eqb _ _ (envelope_bytes_lem e ∙ ap (envelope_bytes s) (sym (envelope_length_lem inside))))
      ∙ answer_none

  pub envelope_opens : (public : List ℕ) → length signature ≡ signature_bytes s → length roster ≤ roster_limit
      → answer (check_tests s public (roster_message team roster) signature) ≡ 0 → answer (open_tests s public (envelope_of s team roster signature)) ≡ 0
  unfolding open_tests
  envelope_opens public e short accepted =
      answer_past (head_tests s (envelope_of s team roster signature)) _ (head_numbered s (envelope_of s team roster signature)) (envelope_head e short)
      ∙ ap₂ (λ (m g : List ℕ). answer (check_tests s public m g)) (envelope_message (omega arith)) (envelope_signature (omega arith) e)
      ∙ accepted

-- ---- what writing's tests say

pub writable : (s : Numbers) (roster signature : List ℕ) (envelope_length : ℕ) → answer (write_tests s roster signature envelope_length) ≡ 0 → Writable s roster signature envelope_length
unfolding write_tests every
writable s roster signature envelope_length h =
    let at = passes_at (write_tests s roster signature envelope_length) refl h in
    record {
      signature_long = eqb-true _ _ (at 0);
      envelope_long = eqb-true _ _ (at 1);
      signature_mark = at 2;
      short = leb-true _ _ (at 3);
      z_passes = at 4;
    }

-- and what has those facts passes them
pub writable_passes : (s : Numbers) (roster signature : List ℕ) (envelope_length : ℕ) → Writable s roster signature envelope_length → answer (write_tests s roster signature envelope_length) ≡ 0
unfolding write_tests
writable_passes s roster signature envelope_length w =
    answer_pass 1 _ (eq-eqb _ _ w.signature_long)
    ∙ answer_pass 1 _ (eq-eqb _ _ w.envelope_long)
    ∙ answer_pass 2 _ w.signature_mark
    ∙ answer_pass 3 _ (le-leb _ _ w.short)
    ∙ answer_pass 9 _ w.z_passes
    ∙ answer_none

-- ---- what reads is what would be written

-- two bytes make a number, and the number those bytes
number_back : (a : ℕ) (xs : List ℕ) → a + 2 ≤ length xs → Below 256 xs → two_bytes (number_at a xs) ≡ get_or xs a 0 ∷ get_or xs (a + 1) 0 ∷ []
number_back a xs h b = two_back (get_or xs a 0) (get_or xs (a + 1) 0) (b.at a (omega arith)) (b.at (a + 1) (omega arith))

bytes_there : (a : ℕ) (xs : List ℕ) → a + 2 ≤ length xs → get_or xs a 0 ∷ get_or xs (a + 1) 0 ∷ [] ≡ take 2 (drop a xs)
bytes_there a xs h =
    rw (next) (sym (ap (take 2) (drop-cons xs a 0 (omega arith) ∙ ap (λ (l : List ℕ). get_or xs a 0 ∷ l) (drop-cons xs (suc a) 0 (omega arith)))))
  where
    next : a + 1 ≡ suc a
    next = omega arith

stands : (a : ℕ) (xs : List ℕ) → a + 2 ≤ length xs → Below 256 xs → two_bytes (number_at a xs) ≡ take 2 (drop a xs)
stands a xs h b = number_back a xs h b ∙ bytes_there a xs h

-- the mark, L, the total and the stretches of an envelope whose head passed
module _ (s : Numbers) (envelope : List ℕ) (passed : answer (head_tests s envelope) ≡ 0) where
  is_marked : marked s envelope_kind envelope ≡ true
  unfolding head_tests every
  is_marked = passes_at (head_tests s envelope) refl passed 1

  pub envelope_total : length envelope ≡ envelope_bytes s (length_of envelope)
  unfolding head_tests every
  envelope_total = eqb-true _ _ (passes_at (head_tests s envelope) refl passed 3)

  pub envelope_short : length_of envelope ≤ roster_limit
  unfolding head_tests every
  envelope_short = leb-true _ _ (passes_at (head_tests s envelope) refl passed 2)

  pub roster_of_length : length (roster_of envelope) ≡ length_of envelope
  unfolding roster_of
  roster_of_length = part_length head_bytes (length_of envelope) envelope (omega (arith, envelope_total))

  pub message_of_length : length (message_of envelope) ≡ 2 + length_of envelope
  unfolding message_of
  message_of_length = omega (arith, roster_of_length)

  pub signature_of_length : length (signature_of s envelope) ≡ signature_bytes s
  unfolding signature_of
  signature_of_length = part_length (head_bytes + length_of envelope) (signature_bytes s) envelope (omega (arith, envelope_total))

module _ (s : Numbers) (envelope : List ℕ) (bytes : Below 256 envelope) (passed : answer (head_tests s envelope) ≡ 0) where
  -- two bytes make a team number
  pub team_of_fits : team_of envelope < 65536
  unfolding team_of
  team_of_fits =
      let total = envelope_total s envelope passed in
      omega (arith, bytes.at 2 (omega (arith, total)), bytes.at 3 (omega (arith, total)))

  -- the signed message is that of the team number and the roster that come back
  pub message_again : message_of envelope ≡ roster_message (team_of envelope) (roster_of envelope)
  unfolding message_of team_of
  message_again = ap (λ (xs : List ℕ). xs ++ roster_of envelope) (sym (number_back 2 envelope (omega (arith, envelope_total s envelope passed)) bytes))

  pub envelope_again : envelope_of s (team_of envelope) (roster_of envelope) (signature_of s envelope) ≡ envelope
  unfolding envelope_of team_of roster_of signature_of length_of
  envelope_again =
      ap₂ ◌++◌ (marked_front s envelope_kind envelope (omega (arith, envelope_total s envelope passed)) (is_marked s envelope passed))
      (ap₂ ◌++◌ (stands 2 envelope (omega (arith, envelope_total s envelope passed)) bytes)
      (ap₂ ◌++◌ (ap two_bytes (roster_of_length s envelope passed) ∙ stands 4 envelope (omega (arith, envelope_total s envelope passed)) bytes)
      (parts_join head_bytes (length_of envelope) (signature_bytes s) envelope)
      ∙ parts_join 4 2 (length_of envelope + signature_bytes s) envelope)
      ∙ parts_join 2 2 (2 + (length_of envelope + signature_bytes s)) envelope)
      ∙ parts_join 0 2 (2 + (2 + (length_of envelope + signature_bytes s))) envelope
      ∙ take_all (2 + (2 + (2 + (length_of envelope + signature_bytes s)))) envelope (omega (arith, envelope_total s envelope passed))

-- ---- what comes back

-- the stretch of the length that comes back is the roster that comes back: on refusal both are empty
pub roster_answered_lem : (refusal : ℕ) (envelope : List ℕ) → stretch head_bytes (length_answered refusal envelope) envelope ≡ roster_answered refusal envelope
unfolding after roster_of
roster_answered_lem zero envelope = refl
roster_answered_lem (suc m) envelope = refl

pub opens_roster : (envelope : List ℕ) {ts : List Test} {number team len : ℕ} {out : List ℕ} → Opens ts envelope number team len
    → out ≡ stretch head_bytes len envelope → out ≡ roster_answered (answer ts) envelope
opens_roster envelope {ts} o e = e ∙ ap (λ (n : ℕ). stretch head_bytes n envelope) o.len_is.is ∙ roster_answered_lem (answer ts) envelope
