-- The loop of `packing::pack`: the bytes before the index are written, and the bits that wait with the values that were not read are the
-- rest of the number. Assumes nothing.
use Rattle.packing.specs.Digits.{value}
use Rattle.packing.proofs.Steps.{Turning}
use Rattle.packing.proofs.pack.Given as goal

abbrev pub invariant-loop-byte : goal.invariant-loop-byte
invariant-loop-byte l = Turning l.b 8 (value l.b l.vals) l.values.rest.now l.byte-items l.acc l.have l.byte-index
