-- The goals of `Sponge::absorb` that want an answer by hand. Assumes nothing.
use Rattle.std.proofs.Common.{arith}
use Rattle.shake.proofs.Steps.{absorbing_none, absorbing_byte, absorbing_all}
use Rattle.shake.proofs.Sponge.absorb.Goals as goal

pub loop-b-init : goal.loop-b-init
loop-b-init c = absorbing_none c.args.self _ c.absorbable-place.ensures

pub xor_at-requires : goal.xor_at-requires
xor_at-requires c = c.loop-b.invariant.sound.within

pub loop-b-preserved : goal.loop-b-preserved
loop-b-preserved c = absorbing_byte c.loop-b.invariant c.loop-b-test.true c.xor_at.ensures (c.pass-place.ensures _)

pub returns : goal.returns
returns c = absorbing_all c.loop-b.invariant _ c.absorbable-place.ensures (omega arith)
