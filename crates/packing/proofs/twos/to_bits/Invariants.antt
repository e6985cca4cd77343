-- The loop of `packing::twos::to_bits`: the bits of the first k numbers are written. Assumes nothing.
use Rattle.std.proofs.Common.{◌≡◌, map, take}
use Rattle.whole.specs.Twos.{twos}
use Rattle.packing.proofs.twos.to_bits.Given as goal

abbrev pub invariant-loop-k : goal.invariant-loop-k
invariant-loop-k l = take l.k l.out ≡ map (twos l.b) (take l.k l.z)
