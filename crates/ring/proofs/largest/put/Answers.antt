-- The goals of `ring::largest::put` that want an answer by hand. Assumes nothing.
use Rattle.std.proofs.Common.{arith}
use Rattle.ring.proofs.Places.{pushed_more, pushed_past, pushed_all}
use Rattle.ring.proofs.largest.put.Goals as goal

pub loop-slot-preserved : goal.loop-slot-preserved
loop-slot-preserved c = grind (arith, pushed_more, pushed_past)

pub returns : goal.returns
returns c = grind (arith, pushed_all)
