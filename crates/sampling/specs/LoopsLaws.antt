-- Where a stream does not run short, the candidate rules give what document 000's endless loops give, whatever candidates would follow
-- (`more`), over any range and n:
--     values_loop       the values are the first in-range candidates, in order
--     positions_loop    the positions with signs are the first candidates whose position was not taken before, in order
-- So it is for a_1..a_k, y and c: proofs/DrawnLoops.
-- Assumes nothing.
use Rattle.std.specs.Prelude.{◌≡◌, refl, Bool, true, false, cond, ℕ, zero, suc, ◌≤◌, ltb, length, take}
use Rattle.std.proofs.Math.Path.{ap}
use mathlib.Core.List.{List, [], ◌∷◌, ◌++◌}
use Rattle.std.proofs.Common.{zero-le, suc-le-suc, le_of_suc-le-suc, le_trans, arith, le-ltb}
use Rattle.sampling.specs.Candidates.{emit}
use Rattle.sampling.specs.Values.{values}
use Rattle.sampling.specs.Positions.{Drawn, is_in, positions}
use Rattle.sampling.specs.FreeLaws.{free_here}
use Rattle.sampling.specs.Loops.{in_range, untaken}

-- ---- values

in_range_short : (range : ℕ) (cs : List ℕ) → length (in_range range cs) ≤ length cs
unfolding in_range
in_range_short range [] = zero-le
in_range_short range (c ∷ cs) = go (ltb c range) (in_range_short range cs)
  where
    go : (t : Bool) → length (in_range range cs) ≤ length cs → length (cond t (c ∷ in_range range cs) (in_range range cs)) ≤ suc (length cs)
    go true ih = suc-le-suc ih
    go false ih = omega arith

pub values_loop : (range need : ℕ) (cs more : List ℕ) → need ≤ length (in_range range cs) → values range need cs ≡ take need (in_range range (cs ++ more))
unfolding values emit in_range
values_loop range zero [] more h = refl
values_loop range (suc need) [] more h = absurd (omega arith)
values_loop range zero (c ∷ cs) more h = refl
values_loop range (suc need) (c ∷ cs) more h = go (λ m. values_loop range m cs more) (ltb c range) refl h
  where
    go : ((m : ℕ) → m ≤ length (in_range range cs) → values range m cs ≡ take m (in_range range (cs ++ more))) → (t : Bool) → ltb c range ≡ t
        → suc need ≤ length (cond t (c ∷ in_range range cs) (in_range range cs))
        → values range (suc need) (c ∷ cs) ≡ take (suc need) (cond t (c ∷ in_range range (cs ++ more)) (in_range range (cs ++ more)))
    go ih true e h = rw e (ap (λ (vs : List ℕ). c ∷ vs) (ih need (le_of_suc-le-suc h)))
    go ih false e h = rw (e, le-ltb (length cs) (suc need) (le_trans h (in_range_short range cs))) (ih (suc need) h)

-- ---- positions with signs

untaken_short : (ps : List ℕ) (cs : List Drawn) → length (untaken ps cs) ≤ length cs
unfolding untaken
untaken_short ps [] = zero-le
untaken_short ps (c ∷ cs) = go (is_in c.position ps) (λ qs. untaken_short qs cs)
  where
    go : (t : Bool) → ((qs : List ℕ) → length (untaken qs cs) ≤ length cs)
        → length (cond t (untaken ps cs) (c ∷ untaken (c.position ∷ ps) cs)) ≤ suc (length cs)
    go true ih = omega (arith, ih ps)
    go false ih = suc-le-suc (ih (c.position ∷ ps))

pub positions_loop : (n need : ℕ) (ps : List ℕ) (cs more : List Drawn) → need ≤ length (untaken ps cs)
    → positions n need ps cs ≡ take need (untaken ps (cs ++ more))
unfolding positions emit untaken
positions_loop n zero ps [] more h = refl
positions_loop n (suc need) ps [] more h = absurd (omega arith)
positions_loop n zero ps (c ∷ cs) more h = refl
positions_loop n (suc need) ps (c ∷ cs) more h = go (λ m qs. positions_loop n m qs cs more) (is_in c.position ps) refl h
  where
    go : ((m : ℕ) (qs : List ℕ) → m ≤ length (untaken qs cs) → positions n m qs cs ≡ take m (untaken qs (cs ++ more))) → (t : Bool) → is_in c.position ps ≡ t
        → suc need ≤ length (cond t (untaken ps cs) (c ∷ untaken (c.position ∷ ps) cs))
        → positions n (suc need) ps (c ∷ cs) ≡ take (suc need) (cond t (untaken ps (cs ++ more)) (c ∷ untaken (c.position ∷ ps) (cs ++ more)))
    go ih true e h = rw (e, le-ltb (length cs) (suc need) (le_trans h (untaken_short ps cs))) (ih (suc need) ps h)
    go ih false e h = rw (e, free_here n n c.position ps e) (ap (λ (l : List Drawn). c ∷ l) (ih need (c.position ∷ ps) (le_of_suc-le-suc h)))
