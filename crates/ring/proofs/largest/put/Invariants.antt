-- The loop of `ring::largest::put`. What stands before `slot`, and `moving` pushed into the rest, make the push of x. Assumes nothing.
use Rattle.std.proofs.Common.{◌≡◌, ◌++◌, take, drop}
use Rattle.ring.specs.Largest.{push}
use Rattle.ring.proofs.largest.put.Given as goal

abbrev pub invariant-loop-slot : goal.invariant-loop-slot
invariant-loop-slot l = take l.slot-index l.slots ++ push l.moving (drop l.slot-index l.slots) ≡ push l.x l.initial.slots
