-- Which positions are taken, and the next free one.
--     in_here, in_later, in_cases, in_append, in_moved   membership; the order of the positions does not count
--     free_inside       the next free position is below n
--     free_is_free      it is free while fewer than n are taken: if p, p + 1, .., p + n − 1 modulo n were all taken, then every
--                       number below n would be, and there are n of those
--     free_here         a free position is itself the next free one
--     Distinct          positions of which none comes twice
-- Assumes nothing.
use Rattle.std.specs.Prelude.{◌≡◌, refl, Bool, true, false, cond, ◌||◌, ◌⊎◌, List, [], ◌∷◌, ◌++◌, ℕ, zero, suc, ◌+◌, ◌-◌, ◌%◌, ◌≤◌, ◌<◌, eqb, length, get_or}
use Rattle.std.proofs.Common.{sym, ap, ◌∙◌, subst, inl, inr, ⊎_elim, zero-le, suc-le-suc, add-zero, mod-lt, mod-eq_of_lt, not-suc-le-zero, arith, eq-eqb, eqb-true}
use Rattle.std.proofs.lemmas.Bool.{false≢true}
use Rattle.std.proofs.Math.Nat.{mod-add-mod, add-mod_right}
use Rattle.whole.specs.Int.{lt_or_le}
use Rattle.sampling.specs.Positions.{is_in, free}

-- ---- which positions are taken

pub in_here : (p : ℕ) (ps : List ℕ) → is_in p (p ∷ ps) ≡ true
unfolding is_in
in_here p ps = rw (eq-eqb p p refl)

pub in_later : (x p : ℕ) (ps : List ℕ) → is_in x ps ≡ true → is_in x (p ∷ ps) ≡ true
unfolding is_in
in_later x p ps h = go (eqb x p)
  where
    go : (t : Bool) → (t || is_in x ps) ≡ true
    go true = refl
    go false = h

pub in_cases : (x p : ℕ) (ps : List ℕ) → is_in x (p ∷ ps) ≡ true → (x ≡ p) ⊎ (is_in x ps ≡ true)
unfolding is_in
in_cases x p ps = go (eqb x p) refl
  where
    go : (t : Bool) → eqb x p ≡ t → (t || is_in x ps) ≡ true → (x ≡ p) ⊎ (is_in x ps ≡ true)
    go true e h = inl (eqb-true x p e)
    go false e h = inr h

pub in_append : (x : ℕ) (ps qs : List ℕ) → is_in x (ps ++ qs) ≡ (is_in x ps || is_in x qs)
unfolding is_in
in_append x [] qs = refl
in_append x (p ∷ ps) qs = go (eqb x p) (in_append x ps qs)
  where
    go : (t : Bool) → is_in x (ps ++ qs) ≡ (is_in x ps || is_in x qs) → (t || is_in x (ps ++ qs)) ≡ (t || is_in x ps || is_in x qs)
    go true ih = refl
    go false ih = ih

-- the order in which positions stand does not count
pub in_moved : (x p : ℕ) (ps qs : List ℕ) → is_in x (p ∷ (ps ++ qs)) ≡ is_in x (ps ++ (p ∷ qs))
unfolding is_in
in_moved x p ps qs = rw (in_append x ps qs, in_append x ps (p ∷ qs)) (go (eqb x p) (is_in x ps) (is_in x qs))
  where
    go : (a b c : Bool) → (a || (b || c)) ≡ (b || (a || c))
    go true true c = refl
    go true false c = refl
    go false b c = refl

-- ---- fewer than n positions are not all of those below n

without : ℕ → List ℕ → List ℕ
without x [] = []
without x (p ∷ ps) = cond (eqb x p) ps (p ∷ without x ps)

without_fewer : (x : ℕ) (ps : List ℕ) → is_in x ps ≡ true → length ps ≡ suc (length (without x ps))
unfolding is_in without
without_fewer x [] h = absurd (false≢true h)
without_fewer x (p ∷ ps) h = go (eqb x p) (without_fewer x ps) h
  where
    go : (t : Bool) → (is_in x ps ≡ true → length ps ≡ suc (length (without x ps))) → (t || is_in x ps) ≡ true → suc (length ps) ≡ suc (length (cond t ps (p ∷ without x ps)))
    go true ih h = refl
    go false ih h = ap suc (ih h)

without_others : (x y : ℕ) (ps : List ℕ) → (y ≡ x → ⊥) → is_in y ps ≡ true → is_in y (without x ps) ≡ true
unfolding without
without_others x y [] ne h = h
without_others x y (p ∷ ps) ne h = go (eqb x p) refl (without_others x y ps ne)
  where
    go : (t : Bool) → eqb x p ≡ t → (is_in y ps ≡ true → is_in y (without x ps) ≡ true) → is_in y (cond t ps (p ∷ without x ps)) ≡ true
    go true e ih = ⊎_elim (λ q. absurd (ne (q ∙ sym (eqb-true x p e)))) (λ l. l) (in_cases y p ps h)
    go false e ih = ⊎_elim (λ q. subst (λ (z : ℕ). is_in z (p ∷ without x ps) ≡ true) (sym q) (in_here p (without x ps))) (λ l. in_later y p (without x ps) (ih l)) (in_cases y p ps h)

all_taken : (n : ℕ) (ps : List ℕ) → ((x : ℕ) → x < n → is_in x ps ≡ true) → n ≤ length ps
all_taken zero ps h = zero-le
all_taken (suc n) ps h =
    rw (without_fewer n ps (h n (omega arith)))
    (suc-le-suc (all_taken n (without n ps) (λ x l. without_others n x ps (λ e. omega (arith, e)) (h x (omega arith)))))

-- ---- the next free position

pub free_inside : (n steps p : ℕ) (ps : List ℕ) → p < n → free n steps p ps < n
unfolding free
free_inside n zero p ps h = h
free_inside n (suc steps) p ps h = go (is_in p ps) (free_inside n steps ((p + 1) % n) ps (mod-lt (p + 1) (omega arith)))
  where
    go : (t : Bool) → free n steps ((p + 1) % n) ps < n → cond t (free n steps ((p + 1) % n) ps) p < n
    go true ih = ih
    go false ih = h

-- it is free, or every position that was looked at is taken
free_or_taken : (n steps p : ℕ) (ps : List ℕ) → p < n → (is_in (free n steps p ps) ps ≡ false) ⊎ ((j : ℕ) → j < steps → is_in ((p + j) % n) ps ≡ true)
unfolding free
free_or_taken n zero p ps h = inr (λ j l. absurd (not-suc-le-zero l))
free_or_taken n (suc steps) p ps h = go (is_in p ps) refl (free_or_taken n steps ((p + 1) % n) ps (mod-lt (p + 1) (omega arith)))
  where
    first : is_in p ps ≡ true → is_in ((p + 0) % n) ps ≡ true
    first e = rw (add-zero p, mod-eq_of_lt h) e

    onward : (j : ℕ) → is_in (((p + 1) % n + j) % n) ps ≡ true → is_in ((p + suc j) % n) ps ≡ true
    onward j e = subst (λ (x : ℕ). is_in x ps ≡ true) (mod-add-mod (p + 1) n j ∙ ap (λ (x : ℕ). x % n) (omega arith)) e

    go : (t : Bool) → is_in p ps ≡ t
        → (is_in (free n steps ((p + 1) % n) ps) ps ≡ false) ⊎ ((j : ℕ) → j < steps → is_in (((p + 1) % n + j) % n) ps ≡ true)
        → (is_in (cond t (free n steps ((p + 1) % n) ps) p) ps ≡ false) ⊎ ((j : ℕ) → j < suc steps → is_in ((p + j) % n) ps ≡ true)
    go false e ih = inl e
    go true e (inl f) = inl f
    go true e (inr all) = inr each
      where
        each : (j : ℕ) → j < suc steps → is_in ((p + j) % n) ps ≡ true
        each zero l = first e
        each (suc j) l = onward j (all j (omega arith))

pub free_is_free : (n p : ℕ) (ps : List ℕ) → p < n → length ps < n → is_in (free n n p ps) ps ≡ false
free_is_free n p ps h l = ⊎_elim (λ f. f) (λ all. absurd (omega (arith, all_taken n ps (every all)))) (free_or_taken n n p ps h)
  where
    every : ((j : ℕ) → j < n → is_in ((p + j) % n) ps ≡ true) → (x : ℕ) → x < n → is_in x ps ≡ true
    every all x k =
        ⊎_elim (λ below. subst (λ (y : ℕ). is_in y ps ≡ true) (around below) (all (n + x - p) (omega arith)))
        (λ above. subst (λ (y : ℕ). is_in y ps ≡ true) (straight above) (all (x - p) (omega arith))) (lt_or_le x p)
      where
        around : x < p → (p + (n + x - p)) % n ≡ x
        around below = ap (λ (y : ℕ). y % n) at ∙ add-mod_right x n ∙ mod-eq_of_lt k
          where
            at : p + (n + x - p) ≡ x + n
            at = omega arith

        straight : p ≤ x → (p + (x - p)) % n ≡ x
        straight above = ap (λ (y : ℕ). y % n) at ∙ mod-eq_of_lt k
          where
            at : p + (x - p) ≡ x
            at = omega arith

-- a position that is free is itself the next free one
pub free_here : (n steps p : ℕ) (ps : List ℕ) → is_in p ps ≡ false → free n steps p ps ≡ p
unfolding free
free_here n zero p ps e = refl
free_here n (suc steps) p ps e = rw e

pub free_same : (n steps p : ℕ) (ps qs : List ℕ) → ((x : ℕ) → is_in x ps ≡ is_in x qs) → free n steps p ps ≡ free n steps p qs
unfolding free
free_same n zero p ps qs h = refl
free_same n (suc steps) p ps qs h = rw (h p, free_same n steps ((p + 1) % n) ps qs h)

-- ---- positions that do not come twice

pub record Distinct (ps : List ℕ) : Type 0 where
  pub at : (i j : ℕ) → i < j → j < length ps → get_or ps i 0 ≡ get_or ps j 0 → ⊥

in_at : (ps : List ℕ) (i : ℕ) → i < length ps → is_in (get_or ps i 0) ps ≡ true
in_at [] i l = absurd (not-suc-le-zero l)
in_at (p ∷ ps) zero l = in_here p ps
in_at (p ∷ ps) (suc i) l = in_later (get_or ps i 0) p ps (in_at ps i (omega arith))

pub not_both : (t : Bool) → t ≡ true → t ≡ false → ⊥
not_both t e f = false≢true (sym f ∙ e)

pub distinct_none : Distinct []
distinct_none = record { at = λ i j l k e. not-suc-le-zero k }

pub distinct_cons : (p : ℕ) (ps : List ℕ) → is_in p ps ≡ false → Distinct ps → Distinct (p ∷ ps)
distinct_cons p ps f d = record { at = go }
  where
    go : (i j : ℕ) → i < j → j < length (p ∷ ps) → get_or (p ∷ ps) i 0 ≡ get_or (p ∷ ps) j 0 → ⊥
    go i zero l k e = not-suc-le-zero l
    go zero (suc j) l k e = not_both (is_in p ps) (subst (λ (x : ℕ). is_in x ps ≡ true) (sym e) (in_at ps j (omega arith))) f
    go (suc i) (suc j) l k e = d.at i j (omega arith) (omega arith) e

pub distinct_tail : {p : ℕ} {ps : List ℕ} → Distinct (p ∷ ps) → Distinct ps
distinct_tail d = record { at = λ i j l k e. d.at (suc i) (suc j) (suc-le-suc l) (suc-le-suc k) e }

-- a position that is taken stands somewhere
in_index : (p : ℕ) (ps : List ℕ) → is_in p ps ≡ true → (j : ℕ) × (j < length ps) × (p ≡ get_or ps j 0)
unfolding is_in
in_index p [] e = absurd (false≢true e)
in_index p (q ∷ ps) e = ⊎_elim (λ f. (0, omega arith, f)) (λ h. let r = in_index p ps h in (suc r.0, suc-le-suc r.1, r.2)) (in_cases p q ps e)

pub distinct_head : (p : ℕ) (ps : List ℕ) → Distinct (p ∷ ps) → is_in p ps ≡ false
distinct_head p ps d = go (is_in p ps) refl
  where
    go : (t : Bool) → is_in p ps ≡ t → t ≡ false
    go false e = refl
    go true e = let r = in_index p ps e in absurd (d.at 0 (suc r.0) (omega arith) (suc-le-suc r.1) r.2)

pub or_right : (t u : Bool) → (t || u) ≡ false → u ≡ false
or_right true u e = absurd (false≢true (sym e))
or_right false u e = e
