-- A slice that a loop fills from the front.
--     Wrote          f stands at its first i places, and the old slice at the others
--     wrote_none     before the first turn
--     wrote_more     a store of f i at place i
--     wrote_next     the same, where f i is made of what stood at place i
--     wrote_ahead    what is still to be written is as it was
--     wrote_front, wrote_all                after the last turn: the first n places are written, or every place
--     wrote_list, wrote_whole, wrote_map    the same, where f gives the elements of a list, or g of each
-- Assumes nothing.
use Rattle.std.specs.Prelude.{◌≡◌, List, ◌∷◌, ◌++◌, map, ℕ, suc, ◌+◌, ◌≤◌, ◌<◌, length, get_or, drop, set}
use Rattle.std.proofs.Math.Path.{refl}
use Rattle.std.proofs.Common.{sym, ap, ◌∙◌, append-nil, zero-le, arith, add-zero, add-one, length-set, drop-cons, get_or-append-add, get_or-drop}
use Rattle.whole.specs.Table.{row, table}
use Rattle.whole.specs.TableLaws.{length_table, table_suc, table_get_or, map_table}
use Rattle.std.proofs.Math.Seq.{drop-length, append_snoc}
use Rattle.std.proofs.lemmas.List.{set_at}

-- ---- what a loop has written: f i at place i, one place after another

-- f stands at the first i places of `now`, and `old` at the others
pub record Wrote {A : Type 0} (f : ℕ → A) (old : List A) (i : ℕ) (now : List A) : Type 0 where
  pub within : i ≤ length old
  pub long : length now ≡ length old
  pub is : now ≡ table i f ++ drop i old

module _ {A : Type 0} {f : ℕ → A} {old : List A} where
  pub wrote_none : Wrote f old 0 old
  unfolding row
  wrote_none = record { within = zero-le; long = refl; is = refl }

  module _ {i : ℕ} {now : List A} where
    -- what is still to be written is as it was
    pub wrote_ahead : (d : A) → Wrote f old i now → get_or now i d ≡ get_or old i d
    wrote_ahead d w =
        rw w.is
        (ap (λ (k : ℕ). get_or (table i f ++ drop i old) k d) (sym (rw (length_table i f) (add-zero i)))
        ∙ get_or-append-add (table i f) (drop i old) 0 d
        ∙ get_or-drop i old 0 d
        ∙ ap (λ (k : ℕ). get_or old k d) (add-zero i))

    pub wrote_more : {v : A} → Wrote f old i now → i < length now → v ≡ f i → Wrote f old (i + 1) (set now i v)
    wrote_more {v} w l e = record { within = omega arith; long = length-set now i v ∙ w.long; is = more }
      where
        rest : drop i old ≡ get_or old i v ∷ drop (suc i) old
        rest = drop-cons old i v (omega (arith, w.long))

        more : set now i v ≡ table (i + 1) f ++ drop (i + 1) old
        more =
            rw (add-one i, w.is, rest, table_suc i f, e)
            (set_at (table i f) (get_or old i (f i)) (drop (suc i) old) (f i) i (length_table i f)
            ∙ sym (append_snoc (table i f) (f i) (drop (suc i) old)))

    -- the first n places are written
    pub wrote_front : (n : ℕ) → Wrote f old i now → i ≡ n → now ≡ table n f ++ drop n old
    wrote_front n w e = w.is ∙ ap (λ (k : ℕ). table k f ++ drop k old) e

    -- every place is written
    pub wrote_all : Wrote f old i now → length now ≤ i → now ≡ table (length old) f
    wrote_all w l = wrote_front (length old) w (omega (arith, w.long, w.within)) ∙ rw (drop-length old) (append-nil (table (length old) f))

-- the same where f i is made of what stood at place i
pub wrote_next : {A : Type 0} {old : List A} (g : ℕ → A → A) (d : A) {i : ℕ} {now : List A} {v : A} → Wrote (λ k. g k (get_or old k d)) old i now
    → i < length now → v ≡ g i (get_or now i d) → Wrote (λ k. g k (get_or old k d)) old (i + 1) (set now i v)
wrote_next g d {i} w l e = wrote_more w l (e ∙ ap (g i) (wrote_ahead d w))

-- the first places have the elements of a list
pub wrote_list : {A : Type 0} (xs : List A) (d : A) {old : List A} {i : ℕ} {now : List A} → Wrote (λ k. get_or xs k d) old i now → i ≡ length xs
    → now ≡ xs ++ drop (length xs) old
wrote_list {A} xs d {old} w e =
    wrote_front (length xs) w e ∙ ap (λ (l : List A). l ++ drop (length xs) old) (sym (table_get_or xs d))

-- every place has an element of it
pub wrote_whole : {A : Type 0} (xs : List A) (d : A) {old : List A} {i : ℕ} {now : List A} → Wrote (λ k. get_or xs k d) old i now
    → length xs ≡ length old → length now ≤ i → now ≡ xs
wrote_whole xs d w e l = wrote_all w l ∙ ap (λ (n : ℕ). table n (λ k. get_or xs k d)) (sym e) ∙ sym (table_get_or xs d)

-- every place has g of a list's element
pub wrote_map : {A B : Type 0} (g : A → B) (xs : List A) (d : A) {old : List B} {i : ℕ} {now : List B} → Wrote (λ k. g (get_or xs k d)) old i now
    → length old ≡ length xs → length xs ≤ i → now ≡ map g xs
wrote_map g xs d w e l =
    wrote_all w (omega (arith, w.long))
    ∙ ap (λ (n : ℕ). table n (λ k. g (get_or xs k d))) e
    ∙ sym (map_table g (length xs) (λ k. get_or xs k d))
    ∙ ap (map g) (sym (table_get_or xs d))
