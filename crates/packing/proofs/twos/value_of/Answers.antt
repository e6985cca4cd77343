-- The goals of `packing::twos::value_of` that want an answer by hand. Assumes nothing.
use Rattle.packing.proofs.Signs.{lowered, positive}
use Rattle.packing.proofs.twos.value_of.Goals as goal

pub returns-then-x-b : goal.returns-then-x-b
returns-then-x-b c = positive c.requires.b_nonzero c.requires.x_bound c.if-x-b.true

pub returns-else-x-b : goal.returns-else-x-b
returns-else-x-b c = lowered c.requires.b_nonzero c.requires.x_bound c.from.ensures c.if-x-b.false
