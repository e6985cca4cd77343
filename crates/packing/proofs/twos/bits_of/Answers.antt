-- The goal of `packing::twos::bits_of` that wants an answer by hand. Assumes nothing.
use Rattle.packing.proofs.Signs.{bits_are}
use Rattle.packing.proofs.twos.bits_of.Goals as goal

pub returns : goal.returns
returns c = bits_are c.requires c.ranges.z c.cast_unsigned.ensures
