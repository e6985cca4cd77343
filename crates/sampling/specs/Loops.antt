-- What document 000's loops take of the candidates: each draws until it has what it needs.
-- Assumes nothing: these are definitions.
use Rattle.std.specs.Prelude.{cond, List, [], ◌∷◌, ℕ, ltb}
use Rattle.sampling.specs.Positions.{Drawn, is_in}

-- the candidates below the range, in order
unfoldable pub in_range : ℕ → List ℕ → List ℕ
in_range range [] = []
in_range range (c ∷ cs) = cond (ltb c range) (c ∷ in_range range cs) (in_range range cs)

-- the candidates whose position was not taken before, in order, where those of ps are taken already
unfoldable pub untaken : List ℕ → List Drawn → List Drawn
untaken ps [] = []
untaken ps (c ∷ cs) = cond (is_in c.position ps) (untaken ps cs) (c ∷ untaken (c.position ∷ ps) cs)
