-- The goals of `packing::unpack` that want an answer by hand. Assumes nothing.
use Rattle.std.proofs.Common.{◌+◌, ◌≤◌, ◌<◌, length, arith}
use Rattle.whole.specs.BelowLaws.{below_bytes}
use Rattle.packing.proofs.Steps.{Unpacking, unpacking_none, unpacking_read, unpacking_room, unpacking_store, unpacking_all}
use Rattle.packing.proofs.unpack.Goals as goal
use Rattle.packing.proofs.unpack.Goals.{After-above-acc, then-b-have, else-b-have}

-- a byte is read
read : (c : After-above-acc)
    → let l = c.loop-byte in
    Unpacking c.args.b c.args.src.now l.out c.above-acc.result (l.have + 8) l.at (l.byte-index + 1)
read c = unpacking_read c.loop-byte.invariant.1 c.loop-byte-test.true (cc)

-- there is a place for a value that is complete
room : (c : After-above-acc) → c.args.b ≤ c.loop-byte.have + 8 → c.loop-byte.at < length c.loop-byte.out
room c h = unpacking_room (read c) c.requires (omega arith) (omega arith) h

pub loop-byte-init : goal.loop-byte-init
loop-byte-init c = (omega arith, unpacking_none _ _ _ (below_bytes _ (λ i. (c.type_inv.src i).fits)))

pub bounds-out-at : goal.bounds-out-at
bounds-out-at c = room (goal.at.bounds-out-at c).After-above-acc c.if-b-have.true

pub loop-byte-preserved : goal.loop-byte-preserved
loop-byte-preserved c =
    let a = (goal.at.loop-byte-preserved c).After-above-acc in
    elim c.if-b-have.branch [
      | then-b-have w ↦ (omega arith, rw (w.out-is, w.acc-is, w.have-is, w.at-is) (unpacking_store (read a) (room a w.if-b-have.true) w.if-b-have.true w.low.ensures))
      | else-b-have w ↦ (omega arith, rw (w.out-is, w.acc-is, w.have-is, w.at-is) (read a))
    ]

pub returns : goal.returns
returns c = unpacking_all c.loop-byte.invariant.1 c.requires (omega arith) (omega arith) (omega arith)
