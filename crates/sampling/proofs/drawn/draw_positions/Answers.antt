-- The goals of `sampling::drawn::draw_positions` that want an answer by hand. Assumes nothing.
use Prim.Native.Nat.{◌*◌}
use native.Mathlib.Omega.{arith}
use Rattle.sampling.proofs.DrawnSteps.{filled, gathering_more, gathering_all}
use Rattle.sampling.proofs.drawn.draw_positions.Goals as goal

pub loop-at-preserved : goal.loop-at-preserved
loop-at-preserved c =
    let squeezed = filled (3 * c.min-k.result) c.loop-at.buffer c.loop-at.sponge (omega arith) c.squeeze-sponge.ensures.state c.squeeze-sponge.ensures.bytes in
    gathering_more c.loop-at.invariant _ squeezed (omega arith) c.positions_stretch-at.ensures

pub returns : goal.returns
returns c = gathering_all c.loop-at.invariant (omega arith) c.requires.placing.paired
