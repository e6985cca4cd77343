-- What the loop of `sums::update` keeps, and what its callers show and learn. Assumes nothing.
use Rattle.std.proofs.Common.{◌≡◌, ℕ, zero, suc, ◌+◌, ◌≤◌, ◌<◌, List, [], ◌∷◌, length, get_or, take, drop, set, refl, arith, add-one, zip, take_all}
use Rattle.std.specs.List.{AllZip}
use Rattle.std.proofs.lemmas.Slice.Zip.{AllZip-long, length-zip}
use Rattle.whole.specs.Table.{table}
use Rattle.whole.specs.TableLaws.{table_is}

-- R of each pair and what stands in its place, at the first i places of `now`; what was there at the others
pub record Updated {A B : Type 0} (R : A × B → A → Type 0) (old : List A) (from : List B) (i : ℕ) (now : List A) : Type 0 where
  pub long : length from ≡ length old
  pub done : AllZip R (zip (take i old) (take i from)) (take i now)
  pub rest : drop i now ≡ drop i old

pub updated_none : {A B : Type 0} (R : A × B → A → Type 0) (Q : A → B → Type 0) (old : List A) (from : List B) → AllZip Q old from → Updated R old from 0 old
updated_none R Q old from h = record { long = AllZip-long Q old from h; done = tt; rest = refl }

-- what the call at place i asks
pub asked : {A B : Type 0} (Q : A → B → Type 0) (old now : List A) (from : List B) (i : ℕ) (d : A) {y : B} → AllZip Q old from → i < length old → length now ≡ length old
    → drop i now ≡ drop i old → y ≡ get_or from i y → Q (get_or now i d) y
asked Q [] now from i d h l m r f = absurd (omega arith)
asked Q (o ∷ os) now [] i d h l m r f = absurd h
asked Q (o ∷ os) [] (p ∷ ps) i d h l m r f = absurd (omega arith)
asked Q (o ∷ os) (n ∷ ns) (p ∷ ps) zero d h l m r f = let e : n ≡ o = cc in rw (e, f) h.0
asked Q (o ∷ os) (n ∷ ns) (p ∷ ps) (suc i) d h l m r f = asked Q os ns ps i d h.1 (omega arith) (omega arith) r f

module _ {A B : Type 0} (R : A × B → A → Type 0) where
  at_turn : (old : List A) (from : List B) (i : ℕ) (now : List A) (d z : A) (y : B) → i < length old → length now ≡ length old
      → y ≡ get_or from i y → R (get_or now i d, y) z → Updated R old from i now → Updated R old from (suc i) (set now i z)
  at_turn [] from i now d z y l m f r u = absurd (omega arith)
  at_turn (o ∷ os) [] i now d z y l m f r u = absurd (omega arith)
  at_turn (o ∷ os) (p ∷ ps) i [] d z y l m f r u = absurd (omega arith)
  at_turn (o ∷ os) (p ∷ ps) zero (n ∷ ns) d z y l m f r u =
      let a : o ≡ n = cc in
      let b : p ≡ y = cc in
      record { long = u.long; done = (rw (a, b) r, tt); rest = cc }
  at_turn (o ∷ os) (p ∷ ps) (suc i) (n ∷ ns) d z y l m f r u =
      let next : Updated R os ps (suc i) (set ns i z) = at_turn os ps i ns d z y (omega arith) (omega arith) f r (record { long = omega arith; done = u.done.1; rest = u.rest }) in
      record { long = u.long; done = (u.done.0, next.done); rest = next.rest }

  pub updated_more : (old now : List A) (from : List B) (i : ℕ) (d : A) {z : A} {y : B} → i < length old → length now ≡ length old
      → y ≡ get_or from i y → R (get_or now i d, y) z → Updated R old from i now → Updated R old from (i + 1) (set now i z)
  updated_more old now from i d {z} {y} l m f r u = rw add-one (at_turn old from i now d z y l m f r u)

  pub updated_all : (old now : List A) (from : List B) (i : ℕ) → length old ≤ i → length now ≡ length old → Updated R old from i now → AllZip R (zip old from) now
  updated_all old now from i l m u = rw (take_all i old l, take_all i from (omega arith), take_all i now (omega arith)) at u.done

-- ---- what callers of `update` show, and what they learn

-- a fact of the pairs at each place
pub at_each : {A B : Type 0} (Q : A → B → Type 0) (d : A) (e : B) (xs : List A) (ys : List B) → length ys ≡ length xs
    → ((i : ℕ) → i < length xs → Q (get_or xs i d) (get_or ys i e)) → AllZip Q xs ys
at_each Q d e [] [] l h = tt
at_each Q d e [] (y ∷ ys) l h = absurd (omega arith)
at_each Q d e (x ∷ xs) [] l h = absurd (omega arith)
at_each Q d e (x ∷ xs) (y ∷ ys) l h = (h 0 (omega arith), at_each Q d e xs ys (omega arith) (λ i m. h (suc i) (omega arith)))

at_place : {A B : Type 0} (R : A × B → A → Type 0) (d : A) (e : B) (old : List A) (from : List B) (new : List A) (i : ℕ) → AllZip R (zip old from) new → length from ≡ length old
    → i < length old → R (get_or old i d, get_or from i e) (get_or new i d)
at_place R d e [] from new i h l m = absurd (omega arith)
at_place R d e (x ∷ xs) [] new i h l m = absurd (omega arith)
at_place R d e (x ∷ xs) (y ∷ ys) [] i h l m = absurd h
at_place R d e (x ∷ xs) (y ∷ ys) (z ∷ zs) zero h l m = h.0
at_place R d e (x ∷ xs) (y ∷ ys) (z ∷ zs) (suc i) h l m = at_place R d e xs ys zs i h.1 (omega arith) (omega arith)

-- what the calls gave
pub updated_is : {A B : Type 0} (R : A × B → A → Type 0) (f : ℕ → A) (d : A) (e : B) (old new : List A) (from : List B) → AllZip R (zip old from) new → length from ≡ length old
    → ((i : ℕ) (z : A) → i < length old → R (get_or old i d, get_or from i e) z → z ≡ f i) → new ≡ table (length old) f
updated_is R f d e old new from h l s =
    table_is (length old) f d new (omega (arith, AllZip-long R (zip old from) new h, length-zip old from))
    (λ k m. s k (get_or new k d) m (at_place R d e old from new k h l m))
