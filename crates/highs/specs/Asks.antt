-- What absorbing the high parts of one polynomial asks of its caller. Assumes nothing: these are definitions.
use Rattle.std.specs.Prelude.{◌≡◌, List, ℕ, length}
use Rattle.sets.specs.declared.Numbers.{Numbers}
use Rattle.sets.specs.Good.{Good}
use Rattle.sampling.specs.Residues.{Residues}

-- one polynomial modulo q, and the place for the bytes of its high parts
pub record Absorbs (set : Numbers) (v bytes : List ℕ) : Type 0 where
  pub good : Good set
  pub v_is : Residues set v
  pub bytes_long : length bytes ≡ set.n
