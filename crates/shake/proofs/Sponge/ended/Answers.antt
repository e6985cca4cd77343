-- `Sponge::ended` meets its contract: the suffix with the padding, and the permutation. Assumes nothing.
use Rattle.shake.specs.Sponge.{ended}
use Rattle.shake.proofs.Sponge.ended.Goals as goal

pub returns : goal.returns
unfolding ended
returns c = rw (c.permute.ensures, c.xor_at-2.ensures, c.xor_at.ensures)
