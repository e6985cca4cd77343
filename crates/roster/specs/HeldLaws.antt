-- The program's buffer is long enough: what it holds of an input, whatever its length, gives the number, the team number and the roster's
-- length of the whole (`held_decides`).
-- Assumes nothing.
use Rattle.std.specs.Prelude.{◌≡◌, refl, Bool, true, false, cond, ◌↔◌, List, ◌∷◌, ℕ, ◌+◌, ◌-◌, ◌≤◌, ◌<◌, eqb, leb, length, take, drop}
use Rattle.std.proofs.Math.Path.{sym}
use Rattle.std.proofs.Common.{ap, ap₂, ◌∙◌, ⊎_elim, arith, length-take, length-drop, take-take, take_all, take-add, drop_at, length-take-le}
use Rattle.std.proofs.Math.Seq.{get_or-take}
use borrow.Author.Tests.{le-leb, leb-true, ne_eqb}
use Rattle.whole.specs.Int.{lt_or_le}
use Rattle.answers.specs.Tests.{Test, ◌or_else◌, answer}
use Rattle.answers.specs.TestLaws.{answer_pass}
use Rattle.sets.specs.declared.Numbers.{Numbers}
use Rattle.sets.specs.Limits.{roster_limit}
use Rattle.sets.specs.SetI.{set_i}
use Rattle.records.specs.Layout.{marked, public_bytes}
use Rattle.envelope.specs.Envelope.{envelope_kind, head_bytes, envelope_bytes, team_of, length_of, head_tests, open_tests}
use Rattle.envelope.specs.Program.{program_tests, envelope_part}
use Rattle.envelope.specs.Promises.{Opens}
use Rattle.roster.specs.Held.{buffer_bytes}

-- ---- an input that is longer than a public record and any envelope

-- what three tests decide, where none of those after them can pass
abbrev decided : Bool → Bool → Bool → ℕ
decided a b c = cond a (cond b (cond c 1 3) 2) 1

-- four tests, of which the last cannot pass where the third does
stops : (a b c d : Bool) (rest : List Test) → (c ≡ true → d ≡ false)
    → answer ((a or_else 1) ∷ (b or_else 2) ∷ (c or_else 3) ∷ (d or_else 1) ∷ rest) ≡ decided a b c
unfolding answer
stops a b true d rest h = rw (h refl)
stops a b false d rest h = refl

module _ (s : Numbers) (envelope : List ℕ) (m : ℕ) (more : envelope_bytes s roster_limit < m) (long : m ≤ length envelope) where
  abbrev front : List ℕ
  front = take m envelope

  front_long : length front ≡ m
  front_long = omega (arith, length-take m envelope)

  same_mark : marked s envelope_kind front ≡ marked s envelope_kind envelope
  unfolding marked
  same_mark = rw (get_or-take m envelope 0 0 (omega arith), get_or-take m envelope 1 0 (omega arith))

  same_length : length_of front ≡ length_of envelope
  unfolding length_of
  same_length = rw (get_or-take m envelope 4 0 (omega arith), get_or-take m envelope 5 0 (omega arith))

  same_team : team_of front ≡ team_of envelope
  unfolding team_of
  same_team = rw (get_or-take m envelope 2 0 (omega arith), get_or-take m envelope 3 0 (omega arith))

  -- no envelope is so long
  too_long : (xs : List ℕ) → m ≤ length xs → leb (length_of xs) roster_limit ≡ true → eqb (length xs) (envelope_bytes s (length_of xs)) ≡ false
  too_long xs l e = ne_eqb (length xs) (envelope_bytes s (length_of xs)) (λ x. absurd (omega (arith, x, leb-true (length_of xs) roster_limit e)))

  -- the front of an envelope that is longer than any is refused as the envelope is
  cut_opens : (public : List ℕ) → answer (open_tests s public front) ≡ answer (open_tests s public envelope)
  unfolding open_tests head_tests
  cut_opens public =
      stops (leb head_bytes (length front)) (marked s envelope_kind front) (leb (length_of front) roster_limit) (eqb (length front) (envelope_bytes s (length_of front))) _
      (too_long front (omega (arith, front_long)))
      ∙ same
      ∙ sym
      (stops (leb head_bytes (length envelope)) (marked s envelope_kind envelope) (leb (length_of envelope) roster_limit) (eqb (length envelope) (envelope_bytes s (length_of envelope))) _
      (too_long envelope long))
    where
      same : decided (leb head_bytes (length front)) (marked s envelope_kind front) (leb (length_of front) roster_limit)
          ≡ decided (leb head_bytes (length envelope)) (marked s envelope_kind envelope) (leb (length_of envelope) roster_limit)
      same = rw (le-leb head_bytes (length front) (omega (arith, front_long)), le-leb head_bytes (length envelope) (omega arith), same_mark, same_length)

-- a public record of p bytes, and m bytes after it
envelope_cut : (p m : ℕ) (input : List ℕ) → p + m ≤ length input → drop p (take (p + m) input) ≡ take m (drop p input)
envelope_cut p m input h = ap (drop p) (take-add p m input) ∙ drop_at (take p input) (take m (drop p input)) p (length-take-le p input (omega arith))

cut_answers : (s : Numbers) (p m : ℕ) (input : List ℕ) → envelope_bytes s roster_limit < m → p + m ≤ length input
    → answer ((leb p (length (take (p + m) input)) or_else 1) ∷ open_tests s (take p (take (p + m) input)) (drop p (take (p + m) input)))
    ≡ answer ((leb p (length input) or_else 1) ∷ open_tests s (take p input) (drop p input))
cut_answers s p m input more long =
    answer_pass 1 _ (le-leb p (length (take (p + m) input)) (omega (arith, length-take (p + m) input)))
    ∙ ap₂ (λ (a b : List ℕ). answer (open_tests s a b)) (take-take p (p + m) input (omega arith)) (envelope_cut p m input long)
    ∙ cut_opens s (drop p input) m more (omega (arith, length-drop p input)) (take p input)
    ∙ sym (answer_pass 1 _ (le-leb p (length input) (omega arith)))

-- ---- what the program holds decides

-- all that is asked of two inputs for the same to come back
record Alike (x y : List ℕ) : Type 0 where
  answers : answer (program_tests x) ≡ answer (program_tests y)
  teams : team_of (envelope_part x) ≡ team_of (envelope_part y)
  lengths : length_of (envelope_part x) ≡ length_of (envelope_part y)

alike_turned : {x y : List ℕ} → Alike x y → Alike y x
alike_turned a = record { answers = sym a.answers; teams = sym a.teams; lengths = sym a.lengths }

alike_opens : {x y : List ℕ} {number team len : ℕ} → Alike x y → Opens (program_tests x) (envelope_part x) number team len
    → Opens (program_tests y) (envelope_part y) number team len
alike_opens a o =
    record {
      answered = record { is = o.answered.is ∙ a.answers };
      team_is = record { is = rw (← a.answers, ← a.teams) o.team_is.is };
      len_is = record { is = rw (← a.answers, ← a.lengths) o.len_is.is };
    }

alike_same : {x y : List ℕ} → x ≡ y → Alike x y
alike_same e = rw e (record { answers = refl; teams = refl; lengths = refl })

alike_cut : (m : ℕ) (input : List ℕ) → envelope_bytes set_i roster_limit < m → public_bytes set_i + m ≤ length input
    → Alike (take (public_bytes set_i + m) input) input
unfolding program_tests
alike_cut m input more long =
    record {
      answers = cut_answers set_i (public_bytes set_i) m input more long;
      teams = ap team_of (envelope_cut (public_bytes set_i) m input long) ∙ same_team set_i (envelope_part input) m more long_after;
      lengths = ap length_of (envelope_cut (public_bytes set_i) m input long) ∙ same_length set_i (envelope_part input) m more long_after;
    }
  where
    long_after : m ≤ length (envelope_part input)
    long_after = omega (arith, length-drop (public_bytes set_i) input)

held_alike : (input : List ℕ) → Alike (take buffer_bytes input) input
held_alike input =
    ⊎_elim
    (λ l. alike_same (take_all buffer_bytes input (omega arith)))
    (λ l. alike_cut (buffer_bytes - public_bytes set_i) input (omega arith) l)
    (lt_or_le (length input) buffer_bytes)

pub held_decides : (input : List ℕ) (number team len : ℕ)
    → Opens (program_tests (take buffer_bytes input)) (envelope_part (take buffer_bytes input)) number team len
    ↔ Opens (program_tests input) (envelope_part input) number team len
held_decides input number team len = (alike_opens (held_alike input), alike_opens (alike_turned (held_alike input)))
