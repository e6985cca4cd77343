-- The goal of `shake::xor_at` that wants an answer by hand: a byte that is shifted by at most 56 bits loses none of them. Assumes nothing.
use Rattle.shake.proofs.Steps.{xor_at_is}
use Rattle.shake.proofs.xor_at.Goals as goal

pub returns : goal.returns
returns c = xor_at_is _ _ c.args.b _ c.ranges.b.fits (rw c.from.ensures)
