-- `keccak::chi` meets its contract: what it returns computes to `chi` of its lanes. Assumes nothing.
use Rattle.std.proofs.Common.{refl}
use Rattle.keccak.specs.Steps.{chi}
use Rattle.keccak.proofs.chi.Goals as goal

pub returns : goal.returns
unfolding chi
returns c = refl
