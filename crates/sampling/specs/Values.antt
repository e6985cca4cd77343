-- The candidate rule for values below a range, over the candidates in the order of the stream. A candidate below the range is a
-- value. Any other is passed over as long as those behind it can fill every place that is left; once they cannot, it is a value less
-- the range.
-- Assumes nothing: these are definitions, and one sum that they give.
use Rattle.std.specs.Prelude.{◌≡◌, refl, Bool, cond, ◌||◌, List, [], ◌∷◌, ℕ, zero, suc, ◌-◌, ltb, ℤ, pos, ◌-ℤ◌, length}
use Rattle.sampling.specs.Candidates.{emit}

-- whether candidate c is taken, with `left` candidates after it and `need` values still needed
abbrev pub takes_value : ℕ → ℕ → ℕ → ℕ → Bool
takes_value range need left c = ltb c range || ltb left need

-- what is taken of it
abbrev pub reduced : ℕ → ℕ → ℕ
reduced range c = cond (ltb c range) c (c - range)

-- the values taken of the candidates, where `need` are needed
unfoldable pub values : ℕ → ℕ → List ℕ → List ℕ
values range need [] = []
values range zero (c ∷ cs) = []
values range (suc need) (c ∷ cs) =
    emit (takes_value range (suc need) (length cs) c) (reduced range c)
    (values range (cond (takes_value range (suc need) (length cs) c) need (suc need)) cs)

-- a value less b
abbrev pub less_of : ℕ → ℕ → ℤ
less_of b v = pos v -ℤ pos b

-- document 01's sum 10: range 5, three needed. It stands with the rule, so that a wrong count is refused here.
pub sum_10 : values 5 3 (6 ∷ 7 ∷ 2 ∷ 5 ∷ 1 ∷ []) ≡ 2 ∷ 0 ∷ 1 ∷ []
unfolding values emit
sum_10 = refl
