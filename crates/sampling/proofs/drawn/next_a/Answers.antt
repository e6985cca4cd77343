-- The goals of `sampling::drawn::next_a` that want an answer by hand. Assumes nothing.
use mathlib.Core.Path.{refl}
use Prim.Native.Nat.{◌*◌}
use native.Mathlib.Omega.{arith}
use Rattle.sampling.specs.DrawALaws.{after_a}
use Rattle.sampling.proofs.DrawnSteps.{filled, squeezing_most, squeezing_more, squeezing_full}
use Rattle.sampling.proofs.drawn.next_a.Goals as goal

pub overflow_sub-need-in-loop-at : goal.overflow_sub-need-in-loop-at
overflow_sub-need-in-loop-at c =
    let squeezed = filled (4 * c.min-k.result) c.loop-at.buffer c.loop-at.sponge (omega arith) c.squeeze-sponge.ensures.state c.squeeze-sponge.ensures.bytes in
    let most = squeezing_most c.loop-at.invariant _ _ squeezed refl (omega arith) c.values_stretch-next.ensures in
    omega (arith, most)

pub loop-at-preserved : goal.loop-at-preserved
loop-at-preserved c =
    let squeezed = filled (4 * c.min-k.result) c.loop-at.buffer c.loop-at.sponge (omega arith) c.squeeze-sponge.ensures.state c.squeeze-sponge.ensures.bytes in
    let most = squeezing_most c.loop-at.invariant _ _ squeezed refl (omega arith) c.values_stretch-next.ensures in
    squeezing_more c.loop-at.invariant _ _ squeezed refl (omega arith) c.values_stretch-next.ensures (omega (arith, most)) (omega (arith, most))

pub returns : goal.returns
returns c =
    after_a c.args.set c.args.d c.loop-at.out _ (squeezing_full c.loop-at.invariant (omega arith)) (omega arith) (omega arith) (omega arith)
