-- A record that is written piece by piece: what stands in its front and how many bytes that is. The rest is as it was.
--     standing_kept      nothing is written, and the first a bytes stay
--     standing_mark      the mark of record j
--     standing_next      one piece more; `standing_copy` where it is copied
--     standing_take      the front of it
--     standing_all       once as much stands as the record is long, it is what stands
-- Assumes nothing.
use Rattle.std.specs.Prelude.{◌≡◌, refl, List, ◌++◌, ℕ, ◌+◌, ◌≤◌, length, take, drop}
use Rattle.std.proofs.Common.{sym, ◌∙◌, arith, length-append, length-take-le}
use Rattle.whole.specs.Written.{Written, written_kept, written_front, written_more, written_take, written_all}
use Rattle.sets.specs.declared.Numbers.{Numbers}
use Rattle.records.specs.Layout.{mark}

pub record Standing (a : ℕ) (done old out : List ℕ) : Type 0 where
  pub long : length done ≡ a
  pub written : Written done old out

pub standing_kept : (a : ℕ) (old : List ℕ) → a ≤ length old → Standing a (take a old) old old
standing_kept a old h = record { long = length-take-le a old h; written = written_kept a old h }

pub standing_mark : (s : Numbers) (j : ℕ) (old : List ℕ) {out : List ℕ} → 2 ≤ length old → out ≡ mark s j ++ drop 2 old → Standing 2 (mark s j) old out
standing_mark s j old h f = record { long = refl; written = written_front 2 refl h f }

module _ {a : ℕ} {done old out : List ℕ} (w : Standing a done old out) where
  module _ (piece : List ℕ) {at m : ℕ} {new : List ℕ} (e : at ≡ a) (f : length piece ≡ m) (h : a + m ≤ length old) where
    pub standing_next : new ≡ take at out ++ (piece ++ drop (at + m) out) → Standing (a + m) (done ++ piece) old new
    standing_next g =
        record {
          long = omega (arith, length-append done piece, w.long);
          written = written_more w.written at m piece (e ∙ sym w.long) f (omega arith) g;
        }

    pub standing_copy : new ≡ take at out ++ (piece ++ drop (at + length piece) out) → Standing (a + m) (done ++ piece) old new
    standing_copy g = standing_next (g ∙ rw f)

  pub standing_take : take a out ≡ done
  standing_take = written_take w.written a (sym w.long)

  pub standing_all : a ≡ length old → out ≡ done
  standing_all e = written_all w.written (w.long ∙ e)
