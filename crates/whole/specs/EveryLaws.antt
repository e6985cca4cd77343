-- Laws of tests on every element.
--     every_at, every_all           what `every` says of each place
--     every_append, every_joined    lists in a row
--     each_below_..                  the same of p 0, .., p (k − 1)
--     Passing                       a loop that tests the elements from the front
--     both, both_first, both_second, and_pass, not_first, not_second      && of two tests
--     and_same, and_differs, same_first, same_rest      && of an equation and other tests
-- Assumes nothing.
use Rattle.std.specs.Prelude.{◌≡◌, Bool, true, false, not, ◌&&◌, eqb, length, get_or, drop}
use Rattle.std.proofs.Math.Path.{refl, sym, ap}
use Rattle.std.proofs.Common.{◌∙◌, true≢false, ⊎_elim, not-suc-le-zero, le_of_suc-le-suc, zero-lt-suc, le_antisymm, add-one, arith, drop_of_length-le, eqb-true, eq-eqb, ne_eqb}
use Rattle.std.proofs.Math.Bool.{and_assoc, and-false}
use mathlib.Core.List.{List, [], ◌∷◌, ◌++◌, map}
use Prim.Native.Nat.{ℕ, zero, suc, ◌+◌, ◌≤◌, ◌<◌}
use Rattle.std.proofs.Math.Seq.{drop-cons}
use Rattle.std.proofs.lemmas.Bool.{not-true, not-false}
use Rattle.whole.specs.Int.{lt_or_le}
use Rattle.whole.specs.Table.{joined}
use Rattle.whole.specs.Every.{every, each_below, same_bytes}

-- ---- && of two tests

pub both : {a b : Bool} → a ≡ true → b ≡ true → (a && b) ≡ true
both e f = rw (e, f)

pub both_first : (a b : Bool) → (a && b) ≡ true → a ≡ true
both_first true b e = refl
both_first false b e = e

pub both_second : (a b : Bool) → (a && b) ≡ true → b ≡ true
both_second true b e = e
both_second false b e = absurd (true≢false (sym e))

pub and_pass : {a : Bool} (b : Bool) → a ≡ true → (a && b) ≡ b
and_pass b e = rw e

pub not_first : {a : Bool} (b : Bool) → a ≡ false → (a && b) ≡ false
not_first b e = rw e

pub not_second : (a : Bool) {b : Bool} → b ≡ false → (a && b) ≡ false
not_second a e = rw e (and-false a)

-- an equation as a first test: it holds, so the rest is left; it does not
pub and_same : {a b : ℕ} {r rest : Bool} → a ≡ b → r ≡ rest → r ≡ (eqb a b && rest)
and_same {a} {b} {r} {rest} e f = f ∙ sym (and_pass rest (eq-eqb a b e))

pub and_differs : {a b : ℕ} (rest : Bool) → (a ≡ b → ⊥) → false ≡ (eqb a b && rest)
and_differs {a} {b} rest h = sym (not_first rest (ne_eqb a b h))

pub same_first : (a b : ℕ) (rest : Bool) → (eqb a b && rest) ≡ true → a ≡ b
same_first a b rest e = eqb-true a b (both_first (eqb a b) rest e)

pub same_rest : (a b : ℕ) (rest : Bool) → (eqb a b && rest) ≡ true → rest ≡ true
same_rest a b rest e = both_second (eqb a b) rest e

-- ---- each of p 0, .., p (k − 1)

pub each_below_none : (p : ℕ → Bool) → each_below 0 p ≡ true
unfolding each_below
each_below_none p = refl

pub each_below_more : {i next : ℕ} (p : ℕ → Bool) → each_below i p ≡ true → p i ≡ true → next ≡ i + 1 → each_below next p ≡ true
unfolding each_below
each_below_more p e f n = rw (n, add-one) (both e f)

pub each_below_at : (k i : ℕ) (p : ℕ → Bool) → each_below k p ≡ true → i < k → p i ≡ true
unfolding each_below
each_below_at zero i p e l = absurd (not-suc-le-zero l)
each_below_at (suc k) i p e l =
    ⊎_elim (λ lt. each_below_at k i p (both_first (each_below k p) (p k) e) lt)
    (λ le. ap p (same le) ∙ both_second (each_below k p) (p k) e) (lt_or_le i k)
  where
    same : k ≤ i → i ≡ k
    same le = omega arith

pub each_below_all : (k : ℕ) (p : ℕ → Bool) → ((i : ℕ) → i < k → p i ≡ true) → each_below k p ≡ true
unfolding each_below
each_below_all zero p h = refl
each_below_all (suc k) p h = both (each_below_all k p (λ i l. h i (omega arith))) (h k (omega arith))

-- a loop that has come to its end
pub each_below_end : {i k : ℕ} (p : ℕ → Bool) → i ≤ k → k ≤ i → each_below i p ≡ true → each_below k p ≡ true
each_below_end p l m e = ap (λ (j : ℕ). each_below j p) (le_antisymm m l) ∙ e

-- one does not pass
pub each_below_fails : (k i : ℕ) (p : ℕ → Bool) → i < k → p i ≡ false → each_below k p ≡ false
each_below_fails k i p l e = go (each_below k p) refl
  where
    go : (b : Bool) → each_below k p ≡ b → each_below k p ≡ false
    go true f = absurd (true≢false (sym (each_below_at k i p f l) ∙ e))
    go false f = f

-- tests that say the same
pub each_below_ext : (k : ℕ) (p r : ℕ → Bool) → ((i : ℕ) → i < k → p i ≡ r i) → each_below k p ≡ each_below k r
unfolding each_below
each_below_ext zero p r h = refl
each_below_ext (suc k) p r h = rw (each_below_ext k p r (λ i l. h i (omega arith)), h k (omega arith))

-- ---- every element

module _ {A : Type 0} where
  pub every_at : (p : A → Bool) (xs : List A) (i : ℕ) (d : A) → every p xs ≡ true → i < length xs → p (get_or xs i d) ≡ true
  unfolding every
  every_at p [] i d e l = absurd (not-suc-le-zero l)
  every_at p (x ∷ xs) zero d e l = both_first (p x) (every p xs) e
  every_at p (x ∷ xs) (suc i) d e l = every_at p xs i d (both_second (p x) (every p xs) e) (le_of_suc-le-suc l)

  pub every_all : (p : A → Bool) (xs : List A) (d : A) → ((i : ℕ) → i < length xs → p (get_or xs i d) ≡ true) → every p xs ≡ true
  unfolding every
  every_all p [] d h = refl
  every_all p (x ∷ xs) d h =
      both (h 0 (zero-lt-suc (length xs))) (every_all p xs d (λ i l. h (suc i) (Prim.Native.Nat.suc-le-suc l)))

  pub every_append : (p : A → Bool) (xs ys : List A) → every p (xs ++ ys) ≡ (every p xs && every p ys)
  unfolding every
  every_append p [] ys = refl
  every_append p (x ∷ xs) ys = rw (every_append p xs ys) (sym (and_assoc (p x) (every p xs) (every p ys)))

  pub every_joined : (p : A → Bool) (k : ℕ) (f : ℕ → List A) → every p (joined k f) ≡ each_below k (λ i. every p (f i))
  unfolding joined each_below every
  every_joined p zero f = refl
  every_joined p (suc k) f = every_append p (joined k f) (f k) ∙ ap (λ (b : Bool). b && every p (f k)) (every_joined p k f)

  -- a loop over the elements: those before i pass
  pub record Passing (p : A → Bool) (xs : List A) (i : ℕ) : Type 0 where
    pub left : every p xs ≡ every p (drop i xs)

  pub passing_none : (p : A → Bool) (xs : List A) → Passing p xs 0
  passing_none p xs = record { left = refl }

  split : (p : A → Bool) (xs : List A) (i : ℕ) (d : A) → i < length xs → every p (drop i xs) ≡ (p (get_or xs i d) && every p (drop (i + 1) xs))
  unfolding every
  split p xs i d l = rw (add-one, drop-cons xs i d l)

  module _ {p : A → Bool} {xs : List A} {i : ℕ} (s : Passing p xs i) where
    pub passing_more : {next : ℕ} (d : A) → i < length xs → p (get_or xs i d) ≡ true → next ≡ i + 1 → Passing p xs next
    passing_more d l e n = rw n (record { left = s.left ∙ split p xs i d l ∙ rw e })

    -- one does not pass
    pub passing_fails : (d : A) → i < length xs → p (get_or xs i d) ≡ false → false ≡ every p xs
    passing_fails d l e = sym (s.left ∙ split p xs i d l ∙ rw e)

    pub passing_all : length xs ≤ i → true ≡ every p xs
    unfolding every
    passing_all l = sym (s.left ∙ rw (drop_of_length-le xs l))

    -- the code's test of element i failed, or held
    pub passing_stops : {r : Bool} (d : A) → i < length xs → r ≡ p (get_or xs i d) → not r ≡ true → false ≡ every p xs
    passing_stops {r} d l e n = passing_fails d l (sym e ∙ not-true r n)

    pub passing_goes : {r : Bool} (d : A) → i < length xs → r ≡ p (get_or xs i d) → not r ≡ false → Passing p xs (i + 1)
    passing_goes {r} d l e n = passing_more d l (sym e ∙ not-false r n) refl

-- ---- equal lists

pub same_refl_bytes : (xs : List ℕ) → same_bytes xs xs ≡ true
unfolding same_bytes
same_refl_bytes [] = refl
same_refl_bytes (x ∷ xs) = both (eq-eqb x x refl) (same_refl_bytes xs)

pub every_map : {A B : Type 0} (p : B → Bool) (f : A → B) (xs : List A) → every p (map f xs) ≡ every (λ x. p (f x)) xs
unfolding every
every_map p f [] = refl
every_map p f (x ∷ xs) = ap (λ (b : Bool). p (f x) && b) (every_map p f xs)

-- a test that always passes
pub every_always : {A : Type 0} (p : A → Bool) (xs : List A) → ((x : A) → p x ≡ true) → every p xs ≡ true
unfolding every
every_always p [] h = refl
every_always p (x ∷ xs) h = both (h x) (every_always p xs h)
