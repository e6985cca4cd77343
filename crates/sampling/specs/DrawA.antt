-- Stream 1 between two of the a_i: the values that it still gives. Assumes nothing: these are definitions.
use Rattle.std.specs.Prelude.{List, ℕ, ◌*◌, ◌≤◌}
use Rattle.shake.specs.Sponge.{squeezed}
use Rattle.sets.specs.declared.Numbers.{Numbers}
use Rattle.sampling.specs.declared.drawn.DrawA.{DrawA}
use Rattle.sampling.specs.Candidates.{candidates}
use Rattle.sampling.specs.Values.{values}

-- the values that the rest of the stream gives: its `left` candidates, of which `need` values are needed
unfoldable pub values_left : Numbers → DrawA → List ℕ
values_left s d = values s.q d.need (candidates 4 s.t_bits (squeezed (4 * d.left) d.sponge))

-- there are candidates enough for the values needed
pub record ValidA (d : DrawA) : Type 0 where
  pub enough : d.need ≤ d.left
