-- A loop that stores what is new one after another from a place on: `new` stands in `out` from `at` on, and `next` is the place after it.
--     stored_none      before anything is stored
--     stored_one       one element
--     stored_append    xs, and then ys from there on
--     stored_length    the output's length stays
--     stored_front     the places before `next`
--     stored_whole     `new` from place 0 on, as long as the output: it is all of it
-- `StoredDrawn` is the same for positions and their signs, in two outputs.
-- Assumes nothing.
use Rattle.std.specs.Prelude.{◌≡◌, refl, List, [], ◌∷◌, ◌++◌, ℕ, suc, ◌+◌, ◌≤◌, ℤ, length, take, drop, set}
use Rattle.std.proofs.Common.{sym, ap, ◌∙◌, append-nil, add-zero, zero-add, le_of_eq, arith, length-append, drop_of_length-le, take_at, length-take-le}
use Rattle.std.proofs.lemmas.List.{map-append}
use Rattle.std.proofs.lemmas.List.Edits.{sets, sets-eq}
use Rattle.std.proofs.Math.Seq.{length-sets}
use Rattle.sampling.specs.Positions.{Drawn, positions_of, signs_of}

pub record Stored {A : Type 0} (new old : List A) (at : ℕ) (out : List A) (next : ℕ) : Type 0 where
  pub out_is : out ≡ sets old at new
  pub next_is : next ≡ at + length new

module _ {A : Type 0} where
  sets_append : (l : List A) (i : ℕ) (xs ys : List A) → sets l i (xs ++ ys) ≡ sets (sets l i xs) (i + length xs) ys
  sets_append l i [] ys = ap (λ (k : ℕ). sets l k ys) (sym (add-zero i))
  sets_append l i (x ∷ xs) ys = sets_append (set l i x) (suc i) xs ys ∙ ap (λ (k : ℕ). sets (sets (set l i x) (suc i) xs) k ys) (omega arith)

  pub stored_none : {at next : ℕ} (old : List A) → next ≡ at → Stored [] old at old next
  stored_none old e = record { out_is = refl; next_is = omega arith }

  pub stored_one : {at next : ℕ} {old : List A} {v w : A} → v ≡ w → next ≡ at + 1 → Stored (w ∷ []) old at (set old at v) next
  stored_one {at} {next} {old} {v} {w} e f = record { out_is = ap (set old at) e; next_is = f }

  pub stored_append : {at next last : ℕ} {xs ys old out end : List A} → Stored xs old at out next → Stored ys out next end last
      → Stored (xs ++ ys) old at end last
  stored_append {at} {next} {last} {xs} {ys} {old} s t =
      record {
        out_is = t.out_is ∙ rw (s.out_is, s.next_is) (sym (sets_append old at xs ys));
        next_is = omega (arith, s.next_is, t.next_is, length-append xs ys);
      }

  pub stored_length : {at next : ℕ} {new old out : List A} → Stored new old at out next → length out ≡ length old
  stored_length {at} {next} {new} {old} s = ap length s.out_is ∙ length-sets old at new

  pub stored_front : {at next : ℕ} {new old out : List A} → Stored new old at out next → next ≤ length old → take next out ≡ take at old ++ new
  stored_front {at} {next} {new} {old} s h =
      rw (s.out_is, sets-eq new old at (omega (arith, s.next_is)))
      (take_at (take at old ++ new) (drop (at + length new) old) next
      (length-append (take at old) new ∙ rw (length-take-le at old (omega (arith, s.next_is))) (sym s.next_is)))

  pub stored_whole : {next : ℕ} {new old out : List A} → Stored new old 0 out next → length new ≡ length old → out ≡ new
  stored_whole {next} {new} {old} s e =
      s.out_is ∙ sets-eq new old 0 (omega arith)
      ∙ rw (zero-add (length new), drop_of_length-le old (le_of_eq (sym e))) (append-nil new)

-- ---- positions with signs

pub record StoredDrawn (new : List Drawn) (positions : List ℕ) (signs : List ℤ) (at : ℕ) (positions' : List ℕ) (signs' : List ℤ) (next : ℕ) : Type 0 where
  pub places : Stored (positions_of new) positions at positions' next
  pub marks : Stored (signs_of new) signs at signs' next

pub stored_drawn_none : {at next : ℕ} (positions : List ℕ) (signs : List ℤ) → next ≡ at → StoredDrawn [] positions signs at positions signs next
stored_drawn_none positions signs e = record { places = stored_none positions e; marks = stored_none signs e }

pub stored_drawn_one : {at next p : ℕ} {s : ℤ} {positions : List ℕ} {signs : List ℤ} (d : Drawn) → p ≡ d.position → s ≡ d.sign → next ≡ at + 1
    → StoredDrawn (d ∷ []) positions signs at (set positions at p) (set signs at s) next
stored_drawn_one d e f g = record { places = stored_one e g; marks = stored_one f g }

pub stored_drawn_append : {at next last : ℕ} {new more : List Drawn} {positions out end : List ℕ} {signs marks done : List ℤ}
    → StoredDrawn new positions signs at out marks next → StoredDrawn more out marks next end done last
    → StoredDrawn (new ++ more) positions signs at end done last
stored_drawn_append {new = new} {more = more} s t =
    record {
      places = rw (map-append (λ (d : Drawn). d.position) new more) (stored_append s.places t.places);
      marks = rw (map-append (λ (d : Drawn). d.sign) new more) (stored_append s.marks t.marks);
    }
