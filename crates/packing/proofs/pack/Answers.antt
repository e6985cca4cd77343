-- The goals of `packing::pack` that want an answer by hand. Assumes nothing.
use Rattle.std.proofs.Common.{◌≤◌, arith}
use Rattle.std.proofs.lemmas.Nat.{and_mask}
use Rattle.packing.specs.Digits.{value}
use Rattle.packing.proofs.Steps.{Turning, turning_none, turning_write, packing_read, packing_all}
use Rattle.packing.proofs.pack.Goals as goal
use Rattle.packing.proofs.pack.Goals.{Joined-have-lt8, then-have-lt8, else-have-lt8}

-- after the refill a byte waits, and what is left is as it was
ready : (c : Joined-have-lt8)
    → let a = c.args in
    let i = c.if-have-lt8 in
    (8 ≤ i.have) × Turning a.b 8 (value a.b a.vals.now) i.values.rest.now c.loop-byte.byte-items i.acc i.have c.loop-byte.byte-index
ready c =
    elim c.if-have-lt8.branch [
      | then-have-lt8 w ↦ (omega arith, rw (w.values-is, w.acc-is, w.have-is) (packing_read _ _ _ w.next.ensures.steps c.loop-byte.invariant (cc)))
      | else-have-lt8 w ↦ (omega arith, rw (w.values-is, w.acc-is, w.have-is) c.loop-byte.invariant)
    ]

pub loop-byte-init : goal.loop-byte-init
loop-byte-init c = rw c.iter-values.ensures.rest (turning_none _ _ _ _ c.requires.below)

pub loop-byte-preserved : goal.loop-byte-preserved
loop-byte-preserved c =
    let r = ready (goal.at.loop-byte-preserved c).Joined-have-lt8 in
    turning_write r.1 r.0 (omega arith) (and_mask _ 8)

pub returns : goal.returns
returns c = packing_all _ _ _ c.requires c.loop-byte.invariant (omega arith) (omega arith) (omega arith) (omega arith)
