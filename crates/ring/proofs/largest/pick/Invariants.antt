-- The loop of `ring::largest::pick`. The bytes so far have been pushed in. Assumes nothing.
use Rattle.std.proofs.Common.{◌≡◌, List, ℕ, length, map, replicate, nat_abs, fold}
use Rattle.whole.specs.Twos.{signed}
use Rattle.ring.specs.Largest.{push}
use Rattle.ring.proofs.largest.pick.Given as goal

abbrev pub invariant-loop-b : goal.invariant-loop-b
invariant-loop-b l = l.slots ≡ fold (λ (ps : List ℕ) (b : ℕ). push (nat_abs (signed 8 b)) ps) (replicate (length l.initial.slots) 0) (map (λ b. b.now) l.yielded)
