-- The loop of `packing::unpack`: fewer than b bits wait after each byte. Assumes nothing.
use Rattle.std.proofs.Common.{◌<◌}
use Rattle.packing.proofs.Steps.{Unpacking}
use Rattle.packing.proofs.unpack.Given as goal

abbrev pub invariant-loop-byte : goal.invariant-loop-byte
invariant-loop-byte l = (l.have < l.b) × Unpacking l.b l.src l.out l.acc l.have l.at l.byte-index
