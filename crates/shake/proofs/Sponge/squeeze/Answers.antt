-- The goals of `Sponge::squeeze` that want an answer by hand. Assumes nothing.
use Rattle.std.proofs.Common.{arith}
use Rattle.shake.proofs.Steps.{squeezing_none, squeezing_byte, squeezing_all}
use Rattle.shake.proofs.Sponge.squeeze.Goals as goal

pub loop-byte-init : goal.loop-byte-init
loop-byte-init c = squeezing_none c.args.self _ c.squeezable-place.ensures

pub byte_at-requires : goal.byte_at-requires
byte_at-requires c = c.loop-byte.invariant.sound.within

pub loop-byte-preserved : goal.loop-byte-preserved
loop-byte-preserved c = squeezing_byte c.loop-byte.invariant (omega arith) c.byte_at.ensures (c.pass-place.ensures _)

pub returns : goal.returns
returns c =
    let r = squeezing_all c.loop-byte.invariant c.args.self _ c.squeezable-place.ensures (omega arith) (omega arith) in
    record { state = r.0; bytes = r.1 }
