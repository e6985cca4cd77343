-- What the candidate rules take of one stretch of the candidates, where `later` ones follow it.
-- Assumes nothing: these are definitions.
use Rattle.std.specs.Prelude.{cond, List, [], ◌∷◌, ℕ, zero, suc, ◌+◌, ℤ, length}
use Rattle.sampling.specs.Candidates.{emit}
use Rattle.sampling.specs.Values.{takes_value, reduced}
use Rattle.sampling.specs.Positions.{Drawn, free, takes_position}

-- ---- values

-- the values taken of the candidates cs, where `later` candidates follow them and `need` values are needed
unfoldable pub part : ℕ → ℕ → ℕ → List ℕ → List ℕ
part range need later [] = []
part range zero later (c ∷ cs) = []
part range (suc need) later (c ∷ cs) =
    emit (takes_value range (suc need) (length cs + later) c) (reduced range c)
    (part range (cond (takes_value range (suc need) (length cs + later) c) need (suc need)) later cs)

-- ---- positions with signs

-- a position with its sign
abbrev pub drawn_as : ℕ → ℤ → Drawn
drawn_as p s = record { position = p; sign = s }

-- candidate c at the next free position
abbrev pub placed : ℕ → List ℕ → Drawn → Drawn
placed n ps c = record { position = free n n c.position ps; sign = c.sign }

-- the positions with signs taken of the candidates cs, where `later` candidates follow them, `need` are needed and those of ps are
-- taken already
unfoldable pub part_positions : ℕ → ℕ → ℕ → List ℕ → List Drawn → List Drawn
part_positions n need later ps [] = []
part_positions n zero later ps (c ∷ cs) = []
part_positions n (suc need) later ps (c ∷ cs) =
    emit (takes_position (suc need) (length cs + later) c.position ps) (placed n ps c)
    (part_positions n
    (cond (takes_position (suc need) (length cs + later) c.position ps) need (suc need))
    later
    (cond (takes_position (suc need) (length cs + later) c.position ps) (free n n c.position ps ∷ ps) ps)
    cs)
