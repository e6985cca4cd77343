-- The sum of the h largest: no h entries of the list sum to more, and some h entries sum to it. Assumes nothing.
use Rattle.std.specs.Prelude.{◌≡◌, refl, List, [], ◌∷◌, ◌++◌, ℕ, zero, suc, ◌+◌, ◌≤◌, ◌<◌, min, max, length, replicate}
use Rattle.std.proofs.Common.{ap, ◌∙◌, ⊎_elim, arith}
use Rattle.whole.specs.Int.{lt_or_le}
use Rattle.ring.specs.Largest.{push, places, added, largest, Choice, done, skip, take}

-- ---- it is what its name says

-- what a push lets fall off: the smallest of x and the places
fallen : ℕ → List ℕ → ℕ
fallen x [] = x
fallen x (p ∷ ps) = fallen (min x p) ps

-- every place holds at least l
data Over (l : ℕ) : List ℕ → Type 0 where
  none : Over l []
  more : (p : ℕ) {ps : List ℕ} → l ≤ p → Over l ps → Over l (p ∷ ps)

-- the last of h + 1 places
last : ℕ → List ℕ → ℕ
last h [] = 0
last h (x ∷ xs) = max (fallen x (places h xs)) (last h xs)

-- ---- a push

push_added : (x : ℕ) (ps : List ℕ) → added (push x ps) + fallen x ps ≡ x + added ps
unfolding push added fallen
push_added x [] = omega arith
push_added x (p ∷ ps) = omega (arith, push_added (min x p) ps)

fallen_le : (x : ℕ) (ps : List ℕ) → fallen x ps ≤ x
unfolding fallen
fallen_le x [] = omega arith
fallen_le x (p ∷ ps) = omega (arith, fallen_le (min x p) ps)

push_last : (x : ℕ) (ps : List ℕ) (l : ℕ) → push x (ps ++ (l ∷ [])) ≡ push x ps ++ (max (fallen x ps) l ∷ [])
unfolding push fallen
push_last x [] l = refl
push_last x (p ∷ ps) l = ap (λ (t : List ℕ). max x p ∷ t) (push_last (min x p) ps l)

added_last : (ps : List ℕ) (l : ℕ) → added (ps ++ (l ∷ [])) ≡ added ps + l
unfolding added
added_last [] l = omega arith
added_last (p ∷ ps) l = omega (arith, added_last ps l)

-- a place more holds what the others let fall
places_last : (h : ℕ) (xs : List ℕ) → places (suc h) xs ≡ places h xs ++ (last h xs ∷ [])
unfolding places last
places_last h [] = zeros h
  where
    zeros : (n : ℕ) → ◌≡◌ {A = List ℕ} (replicate (suc n) 0) (replicate n 0 ++ (0 ∷ []))
    zeros zero = refl
    zeros (suc n) = ap (λ (t : List ℕ). 0 ∷ t) (zeros n)
places_last h (x ∷ xs) = ap (push x) (places_last h xs) ∙ push_last x (places h xs) (last h xs)

largest_last : (h : ℕ) (xs : List ℕ) → largest (suc h) xs ≡ largest h xs + last h xs
largest_last h xs = ap added (places_last h xs) ∙ added_last (places h xs) (last h xs)

-- ---- one number more

pub largest_skip : (h x : ℕ) (xs : List ℕ) → largest h xs ≤ largest h (x ∷ xs)
unfolding places
largest_skip h x xs = omega (arith, push_added x (places h xs), fallen_le x (places h xs))

pub largest_take : (h x : ℕ) (xs : List ℕ) → x + largest h xs ≤ largest (suc h) (x ∷ xs)
unfolding places last
largest_take h x xs = omega (arith, push_added x (places h xs), largest_last h (x ∷ xs))

-- ---- what falls off is the number itself, or as large as the last place

fallen_over : (x : ℕ) {l : ℕ} {ps : List ℕ} → Over l ps → fallen x ps < l → fallen x ps ≡ x
unfolding fallen
fallen_over x {l} = falls x
  where
    falls : (x : ℕ) {ps : List ℕ} → Over l ps → fallen x ps < l → fallen x ps ≡ x
    falls x none h = refl
    falls x (more p le o) h = omega (arith, falls (min x p) o h)

over_fallen : (x : ℕ) (ps : List ℕ) → Over (fallen x ps) (push x ps)
unfolding push fallen
over_fallen x [] = none
over_fallen x (p ∷ ps) = more (max x p) (omega (arith, fallen_le (min x p) ps)) (over_fallen (min x p) ps)

over_push : (x : ℕ) {l : ℕ} {ps : List ℕ} → Over l ps → Over l (push x ps)
unfolding push
over_push x {l} = pushed x
  where
    pushed : (x : ℕ) {ps : List ℕ} → Over l ps → Over l (push x ps)
    pushed x none = none
    pushed x (more p le o) = more (max x p) (omega arith) (pushed (min x p) o)

over_max : {a b : ℕ} {ps : List ℕ} → Over a ps → Over b ps → Over (max a b) ps
over_max none none = none
over_max (more p l o) (more _ m u) = more p (omega arith) (over_max o u)

over_last : (h : ℕ) (xs : List ℕ) → Over (last h xs) (places h xs)
unfolding last places
over_last h [] = zeros h
  where
    zeros : (n : ℕ) → Over 0 (replicate n 0)
    zeros zero = none
    zeros (suc n) = more 0 (omega arith) (zeros n)
over_last h (x ∷ xs) =
    over_max (over_fallen x (places h xs)) (over_push x (over_last h xs))

taken : (h x : ℕ) (xs : List ℕ) → last h xs ≤ fallen x (places h xs) → largest (suc h) (x ∷ xs) ≡ x + largest h xs
unfolding places last
taken h x xs l = omega (arith, push_added x (places h xs), largest_last h (x ∷ xs))

kept : (h x : ℕ) (xs : List ℕ) → fallen x (places h xs) < last h xs → largest (suc h) (x ∷ xs) ≡ largest (suc h) xs
unfolding places last
kept h x xs l =
    omega (arith, push_added x (places h xs), largest_last h (x ∷ xs), largest_last h xs, fallen_over x (over_last h xs) l)

-- ---- where there are more places than numbers the last one holds 0

fallen_zero : (x : ℕ) (ps : List ℕ) → fallen x (ps ++ (0 ∷ [])) ≡ 0
unfolding fallen
fallen_zero x [] = omega arith
fallen_zero x (p ∷ ps) = fallen_zero (min x p) ps

last_zero : (h : ℕ) (xs : List ℕ) → length xs ≤ h → last h xs ≡ 0
unfolding last
last_zero h [] l = refl
last_zero zero (x ∷ xs) l = absurd (omega arith)
last_zero (suc h) (x ∷ xs) l = omega (arith, falls (last_zero h xs (omega arith)), last_zero (suc h) xs (omega arith))
  where
    falls : last h xs ≡ 0 → fallen x (places (suc h) xs) ≡ 0
    falls e = rw (places_last h xs, e) (fallen_zero x (places h xs))

-- ---- no h entries sum to more, and some h entries sum to it

pub every_choice : {h : ℕ} {xs : List ℕ} {s : ℕ} → Choice h xs s → s ≤ largest h xs
every_choice done = omega arith
every_choice (skip {h} {s} {x} {xs} c) = omega (arith, every_choice c, largest_skip h x xs)
every_choice (take {h} {s} {x} {xs} c) = omega (arith, every_choice c, largest_take h x xs)

no_places : (xs : List ℕ) → places 0 xs ≡ []
unfolding places push
no_places [] = refl
no_places (x ∷ xs) = rw (no_places xs)

none_chosen : (xs : List ℕ) → Choice 0 xs (largest 0 xs)
unfolding added
none_chosen xs = rw (no_places xs) (all_skipped xs)
  where
    all_skipped : (ys : List ℕ) → Choice 0 ys 0
    all_skipped [] = done
    all_skipped (y ∷ ys) = skip (all_skipped ys)

pub some_choice : (h : ℕ) (xs : List ℕ) → h ≤ length xs → Choice h xs (largest h xs)
some_choice zero xs l = none_chosen xs
some_choice (suc h) [] l = absurd (omega arith)
some_choice (suc h) (x ∷ xs) l =
    ⊎_elim
    (λ lt. rw (kept h x xs lt) (skip (some_choice (suc h) xs (⊎_elim (λ more_left. more_left) (λ le. absurd (omega (arith, last_zero h xs le))) (lt_or_le h (length xs))))))
    (λ le. rw (taken h x xs le) (take (some_choice h xs (omega arith)))) (lt_or_le (fallen x (places h xs)) (last h xs))
