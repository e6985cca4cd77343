-- The goals of `sampling::drawn::draw_less` that want an answer by hand. Assumes nothing.
use mathlib.Core.Path.{refl}
use Prim.Native.Nat.{◌*◌}
use native.Mathlib.Omega.{arith}
use Rattle.sampling.proofs.DrawnSteps.{filled, squeezing_most, squeezing_more, squeezing_all}
use Rattle.sampling.proofs.drawn.draw_less.Goals as goal

pub loop-at-preserved : goal.loop-at-preserved
loop-at-preserved c =
    let squeezed = filled (3 * c.min-k.result) c.loop-at.buffer c.loop-at.sponge (omega arith) c.squeeze-sponge.ensures.state c.squeeze-sponge.ensures.bytes in
    let most = squeezing_most c.loop-at.invariant _ _ squeezed (omega arith) (omega arith) c.less_stretch-at.ensures in
    squeezing_more c.loop-at.invariant _ _ squeezed (omega arith) (omega arith) c.less_stretch-at.ensures (omega (arith, most)) (omega (arith, most))

pub returns : goal.returns
returns c = squeezing_all c.loop-at.invariant (omega arith) refl
