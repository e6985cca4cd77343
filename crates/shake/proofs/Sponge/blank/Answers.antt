-- `Sponge::blank` meets its contract, which says what it makes. Assumes nothing.
use Rattle.std.proofs.Common.{refl}
use Rattle.shake.specs.Sponge.{blank}
use Rattle.shake.proofs.Sponge.blank.Goals as goal

pub returns : goal.returns
unfolding blank
returns c = refl
