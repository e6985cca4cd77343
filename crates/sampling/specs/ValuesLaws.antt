-- Laws of the candidate rule for values. `part` is what is taken of one stretch of the candidates, where `later` ones follow it.
--     part_in, part_skip, part_last   what becomes of one candidate
--     part_most, part_short           no more than are needed, nor than there are candidates
--     part_enough                     as many as are not left to the candidates that follow
--     part_below                      each is below the range
--     part_append                     a stretch in two parts
--     values_part                     the values of all candidates are the part with none after it
--     values_below                    each is below the range. That they are as many as are needed: proofs/DrawnLengths
--     values_append                   the values of a stretch, then those of the candidates after it
-- Assumes nothing.
use Rattle.std.specs.Prelude.{◌≡◌, refl, Bool, true, false, cond, ◌||◌, List, [], ◌∷◌, ◌++◌, ℕ, zero, suc, ◌+◌, ◌-◌, ◌*◌, ◌≤◌, ◌<◌, ltb, length}
use Rattle.std.proofs.Common.{sym, ap, ◌∙◌, zero-le, suc-le-suc, le_refl, add-zero, add_assoc, arith, length-append, lt-ltb, le-ltb, ltb-true, ltb-false}
use Rattle.std.proofs.Math.Nat.{suc-sub-suc, sub-zero}
use Rattle.whole.specs.Below.{Below}
use Rattle.whole.specs.BelowLaws.{below_cons, below_tail, below_none}
use Rattle.sampling.specs.Candidates.{emit}
use Rattle.sampling.specs.Values.{takes_value, reduced, values}
use Rattle.sampling.specs.Stretches.{part}

-- ---- one candidate

pub part_none : (range later : ℕ) (cs : List ℕ) → part range 0 later cs ≡ []
unfolding part
part_none range later [] = refl
part_none range later (c ∷ cs) = refl

-- in range
pub part_in : (range need later c : ℕ) (cs : List ℕ) → c < range → part range (suc need) later (c ∷ cs) ≡ c ∷ part range need later cs
unfolding part emit
part_in range need later c cs h = rw (lt-ltb c range h)

-- out of range, with enough candidates after it
pub part_skip : (range need later c : ℕ) (cs : List ℕ) → range ≤ c → suc need ≤ length cs + later
    → part range (suc need) later (c ∷ cs) ≡ part range (suc need) later cs
unfolding part emit
part_skip range need later c cs h l = rw (le-ltb c range h, le-ltb (length cs + later) (suc need) l)

-- out of range, with too few
pub part_last : (range need later c : ℕ) (cs : List ℕ) → range ≤ c → length cs + later < suc need
    → part range (suc need) later (c ∷ cs) ≡ (c - range) ∷ part range need later cs
unfolding part emit
part_last range need later c cs h l = rw (le-ltb c range h, lt-ltb (length cs + later) (suc need) l)

-- ---- a stretch

pub part_most : (range need later : ℕ) (cs : List ℕ) → length (part range need later cs) ≤ need
unfolding part emit
part_most range need later [] = zero-le
part_most range zero later (c ∷ cs) = le_refl 0
part_most range (suc need) later (c ∷ cs) = go (λ m. part_most range m later cs) (takes_value range (suc need) (length cs + later) c)
  where
    go : ((m : ℕ) → length (part range m later cs) ≤ m) → (t : Bool) → length (emit t (reduced range c) (part range (cond t need (suc need)) later cs)) ≤ suc need
    go ih true = suc-le-suc (ih need)
    go ih false = ih (suc need)

-- no more than there are candidates
pub part_short : (range need later : ℕ) (cs : List ℕ) → length (part range need later cs) ≤ length cs
unfolding part emit
part_short range need later [] = zero-le
part_short range zero later (c ∷ cs) = zero-le
part_short range (suc need) later (c ∷ cs) = go (λ m. part_short range m later cs) (takes_value range (suc need) (length cs + later) c)
  where
    go : ((m : ℕ) → length (part range m later cs) ≤ length cs) → (t : Bool) → length (emit t (reduced range c) (part range (cond t need (suc need)) later cs)) ≤ suc (length cs)
    go ih true = suc-le-suc (ih need)
    go ih false = omega (arith, ih (suc need))

pub part_enough : (range need later : ℕ) (cs : List ℕ) → need ≤ length cs + later → need ≤ length (part range need later cs) + later
unfolding part emit
part_enough range need later [] h = h
part_enough range zero later (c ∷ cs) h = zero-le
part_enough range (suc need) later (c ∷ cs) h = go (λ m. part_enough range m later cs) (ltb c range) (ltb (length cs + later) (suc need)) refl
  where
    go : ((m : ℕ) → m ≤ length cs + later → m ≤ length (part range m later cs) + later) → (t u : Bool) → ltb (length cs + later) (suc need) ≡ u
        → suc need ≤ length (emit (t || u) (reduced range c) (part range (cond (t || u) need (suc need)) later cs)) + later
    go ih true u e = omega (arith, ih need (omega arith))
    go ih false true e = omega (arith, ih need (omega arith))
    go ih false false e = ih (suc need) (ltb-false (length cs + later) (suc need) e)

reduced_below : (range c : ℕ) → c < 2 * range → reduced range c < range
reduced_below range c h = go (ltb c range) refl
  where
    go : (t : Bool) → ltb c range ≡ t → cond t c (c - range) < range
    go true e = ltb-true c range e
    go false e = omega (arith, ltb-false c range e)

pub part_below : (range need later : ℕ) (cs : List ℕ) → Below (2 * range) cs → Below range (part range need later cs)
unfolding part emit
part_below range need later [] b = below_none
part_below range zero later (c ∷ cs) b = below_none
part_below range (suc need) later (c ∷ cs) b =
    go (λ m. part_below range m later cs (below_tail b)) (takes_value range (suc need) (length cs + later) c)
  where
    go : ((m : ℕ) → Below range (part range m later cs)) → (t : Bool) → Below range (emit t (reduced range c) (part range (cond t need (suc need)) later cs))
    go ih true = below_cons (reduced_below range c (b.at 0 (omega arith))) (ih need)
    go ih false = ih (suc need)

pub part_append : (range need later : ℕ) (cs ds : List ℕ)
    → part range need later (cs ++ ds) ≡ part range need (length ds + later) cs ++ part range (need - length (part range need (length ds + later) cs)) later ds
unfolding part emit
part_append range need later [] ds = ap (λ (m : ℕ). part range m later ds) (sym (sub-zero need))
part_append range zero later (c ∷ cs) ds = sym (part_none range later ds)
part_append range (suc need) later (c ∷ cs) ds =
    rw (length-append cs ds, add_assoc (length cs) (length ds) later)
    (go (λ m. part_append range m later cs ds) (takes_value range (suc need) (length cs + (length ds + later)) c))
  where
    go : ((m : ℕ) → part range m later (cs ++ ds) ≡ part range m (length ds + later) cs ++ part range (m - length (part range m (length ds + later) cs)) later ds)
        → (t : Bool)
        → emit t (reduced range c) (part range (cond t need (suc need)) later (cs ++ ds))
        ≡ emit t (reduced range c) (part range (cond t need (suc need)) (length ds + later) cs)
        ++ part range (suc need - length (emit t (reduced range c) (part range (cond t need (suc need)) (length ds + later) cs))) later ds
    go ih true =
        ap (λ (vs : List ℕ). reduced range c ∷ vs)
        (ih need ∙ ap (λ (m : ℕ). part range need (length ds + later) cs ++ part range m later ds) (sym (suc-sub-suc need (length (part range need (length ds + later) cs)))))
    go ih false = ih (suc need)

-- ---- all candidates

pub values_part : (range need : ℕ) (cs : List ℕ) → values range need cs ≡ part range need 0 cs
unfolding part values emit
values_part range need [] = refl
values_part range zero (c ∷ cs) = refl
values_part range (suc need) (c ∷ cs) =
    rw (add-zero (length cs)) (go (λ m. values_part range m cs) (takes_value range (suc need) (length cs) c))
  where
    go : ((m : ℕ) → values range m cs ≡ part range m 0 cs) → (t : Bool)
        → emit t (reduced range c) (values range (cond t need (suc need)) cs) ≡ emit t (reduced range c) (part range (cond t need (suc need)) 0 cs)
    go ih true = ap (λ (vs : List ℕ). reduced range c ∷ vs) (ih need)
    go ih false = ih (suc need)

pub values_below : (range need : ℕ) (cs : List ℕ) → Below (2 * range) cs → Below range (values range need cs)
values_below range need cs b = rw (values_part range need cs) (part_below range need 0 cs b)

pub values_append : (range need : ℕ) (cs ds : List ℕ)
    → values range need (cs ++ ds) ≡ part range need (length ds) cs ++ values range (need - length (part range need (length ds) cs)) ds
values_append range need cs ds =
    values_part range need (cs ++ ds) ∙ part_append range need 0 cs ds
    ∙ rw (add-zero (length ds), values_part (range) (need - length (part range need (length ds) cs)) ds)
