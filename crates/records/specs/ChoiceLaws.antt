-- Laws of the choice of a record's set by its mark.
--     own_marked                beside an entry that works in a set, a record with its mark is judged by that set
--     own_long, own_length      the test of a record's length, where the record has the mark of the set
--     marked_long               the same where the code has the length from the record's own mark
--     set_good, own_good        a record is judged by a good set
--     set_alike                 records that begin with the same two bytes are of the same set
-- Assumes nothing.
use Rattle.std.specs.Prelude.{◌≡◌, Bool, true, false, not, cond, List, ℕ, eqb, length, get_or}
use Rattle.std.proofs.Common.{sym, ap, ◌∙◌, eqb-true, eq-eqb}
use Rattle.std.proofs.lemmas.Bool.{not-false}
use Rattle.sets.specs.declared.Numbers.{Numbers}
use Rattle.sets.specs.Good.{Good}
use Rattle.sets.specs.SetI.{set_i, set_i_good}
use Rattle.sets.specs.SetIII.{set_iii, set_iii_good}
use Rattle.records.specs.Layout.{marked}
use Rattle.records.specs.Choice.{set_of, own_set}

pub set_good : (j : ℕ) (bytes : List ℕ) → Good (set_of j bytes)
unfolding set_of
set_good j bytes = go (marked set_iii j bytes)
  where
    go : (b : Bool) → Good (cond b set_iii set_i)
    go true = set_iii_good
    go false = set_i_good

pub own_marked : (set : Numbers) (j : ℕ) (bytes : List ℕ) → marked set j bytes ≡ true → own_set set j bytes ≡ set
unfolding own_set
own_marked set j bytes e = rw e

pub own_good : (set : Numbers) (j : ℕ) (bytes : List ℕ) → Good set → Good (own_set set j bytes)
unfolding own_set
own_good set j bytes good = go (marked set j bytes)
  where
    go : (b : Bool) → Good (cond b set (set_of j bytes))
    go true = good
    go false = set_good j bytes

-- ---- the test of a record's length, by the lengths f that sets give

module _ (f : Numbers → ℕ) (set : Numbers) (j : ℕ) (bytes : List ℕ) (e : marked set j bytes ≡ true) where
  pub own_long : eqb (length bytes) (f (own_set set j bytes)) ≡ true → length bytes ≡ f set
  own_long h = eqb-true (length bytes) (f (own_set set j bytes)) h ∙ ap f (own_marked set j bytes e)

  pub own_length : length bytes ≡ f set → eqb (length bytes) (f (own_set set j bytes)) ≡ true
  own_length h = eq-eqb (length bytes) (f (own_set set j bytes)) (h ∙ ap f (sym (own_marked set j bytes e)))

-- the same where the code has the length from the record's own mark
pub marked_long : (f : Numbers → ℕ) {set : Numbers} (j : ℕ) (bytes : List ℕ) {named : ℕ} {is : Bool} → named ≡ f (own_set set j bytes)
    → length bytes ≡ named → is ≡ marked set j bytes → not is ≡ false → length bytes ≡ f set
marked_long f {set} j bytes {is = is} e l m h = l ∙ e ∙ ap f (own_marked set j bytes (sym m ∙ not-false is h))

pub set_alike : (j : ℕ) (xs ys : List ℕ) → get_or xs 0 0 ≡ get_or ys 0 0 → get_or xs 1 0 ≡ get_or ys 1 0 → set_of j xs ≡ set_of j ys
unfolding set_of marked
set_alike j xs ys a b = rw (a, b)
