-- A slice that is written piece by piece from the front: what is done stands in it, and after that it is still the old one.
--     written_none     nothing is done
--     written_front    a first piece
--     written_kept     the first a elements stay
--     written_more     what stands before is kept, and the next piece follows
--     written_take     the front of it
--     written_all      once as much is done as the slice is long, it is what is done
--     written_length   its length is the old one's throughout
-- A part of a slice that is lent and comes back with ys in its place is `take a xs ++ (ys ++ drop m (drop a xs))`:
--     lent_rest        the part from a on
--     put_rest         it comes back with a piece in its front
--     put_part         a part of m elements comes back
-- Assumes nothing.
use Rattle.std.specs.Prelude.{◌≡◌, refl, List, [], ◌++◌, ℕ, ◌+◌, ◌-◌, ◌≤◌}
use Rattle.std.proofs.Common.{sym, ap, ap₂, ◌∙◌, append-nil, append_assoc, zero-le, le_of_eq, arith, take_all, drop-drop, take_at, length-take-le}
use lib.ListN.{length, take, drop, length-append, length-drop, drop_of_length-le}
use Rattle.std.proofs.Math.Seq.{drop-append-add}

module _ {A : Type 0} where
  pub record Written (done old out : List A) : Type 0 where
    pub near : length done ≤ length old
    pub is : out ≡ done ++ drop (length done) old

  pub written_none : (old : List A) → Written [] old old
  written_none old = record { near = zero-le; is = refl }

  pub written_kept : (a : ℕ) (old : List A) → a ≤ length old → Written (take a old) old old
  written_kept a old h =
      record {
        near = omega (arith, length-take-le a old h);
        is = sym (rw (length-take-le a old h) (lib.ListN.take-append-drop a old));
      }

  pub written_front : {piece old out : List A} (m : ℕ) → length piece ≡ m → m ≤ length old → out ≡ piece ++ drop m old → Written piece old out
  written_front {piece} {old} m e h f = record { near = omega arith; is = f ∙ rw e }

  module _ {done old out : List A} (w : Written done old out) where
    pub written_length : length out ≡ length old
    written_length = ap length w.is ∙ simp (length-append, length-drop) (omega (arith, w.near))

    pub written_take : (a : ℕ) → a ≡ length done → take a out ≡ done
    written_take a e = rw w.is (take_at done (drop (length done) old) a (sym e))

    pub written_more : (a m : ℕ) (piece : List A) {new : List A} → a ≡ length done → length piece ≡ m → a + m ≤ length old
        → new ≡ take a out ++ (piece ++ drop (a + m) out) → Written (done ++ piece) old new
    written_more a m piece e f h g =
        record {
          near = omega (arith, length-append done piece);
          is = g ∙ ap₂ ◌++◌ (written_take a e) (ap (λ (l : List A). piece ++ l) second) ∙ sym (append_assoc done piece (drop (length (done ++ piece)) old));
        }
      where
        total : length done + m ≡ length (done ++ piece)
        total = omega (arith, length-append done piece)

        second : drop (a + m) out ≡ drop (length (done ++ piece)) old
        second =
            ap (λ (b : ℕ). drop (b + m) out) e ∙ ap (drop (length done + m)) w.is ∙ drop-append-add done (drop (length done) old) m
            ∙ drop-drop m (length done) old ∙ ap (λ (b : ℕ). drop b old) total

    pub written_all : length done ≡ length old → out ≡ done
    written_all e =
        w.is ∙ ap (λ (l : List A). done ++ l) (drop_of_length-le old (le_of_eq (sym e))) ∙ append-nil done

  -- ---- a part that is lent

  pub lent_rest : (a : ℕ) (xs : List A) → take (length xs - a) (drop a xs) ≡ drop a xs
  lent_rest a xs = take_all (length xs - a) (drop a xs) (le_of_eq (length-drop a xs))

  pub put_rest : (a m : ℕ) (xs piece : List A) {ys : List A} → ys ≡ piece ++ drop m (take (length xs - a) (drop a xs))
      → take a xs ++ (ys ++ drop (length xs - a) (drop a xs)) ≡ take a xs ++ (piece ++ drop (a + m) xs)
  put_rest a m xs piece {ys} e =
      ap (λ (l : List A). take a xs ++ (ys ++ l)) (drop_of_length-le (drop a xs) (le_of_eq (length-drop a xs)))
      ∙ ap (λ (l : List A). take a xs ++ l)
      (append-nil ys ∙ e ∙ ap (λ (l : List A). piece ++ l) (ap (drop m) (lent_rest a xs) ∙ drop-drop m a xs))

  pub put_part : (a m : ℕ) (xs ys : List A) → take a xs ++ (ys ++ drop m (drop a xs)) ≡ take a xs ++ (ys ++ drop (a + m) xs)
  put_part a m xs ys = ap (λ (l : List A). take a xs ++ (ys ++ l)) (drop-drop m a xs)
