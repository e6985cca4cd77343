-- The loop of `packing::twos::from_bits`: what the first k values stand for is written. Assumes nothing.
use Rattle.std.proofs.Common.{◌≡◌, map, take}
use Rattle.whole.specs.Twos.{signed}
use Rattle.packing.proofs.twos.from_bits.Given as goal

abbrev pub invariant-loop-k : goal.invariant-loop-k
invariant-loop-k l = take l.k l.out ≡ map (signed l.b) (take l.k l.x)
