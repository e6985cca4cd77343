-- The goals of `ring::sums::update` that want an answer by hand. Assumes nothing.
use Rattle.std.proofs.Common.{arith}
use Rattle.ring.proofs.Loops.{updated_none, asked, updated_more, updated_all}
use Rattle.ring.proofs.sums.update.Goals as goal

pub loop-i-init : goal.loop-i-init
loop-i-init g c = updated_none _ _ _ _ c.requires

pub f-requires : goal.f-requires
f-requires g c = asked _ _ _ _ _ _ c.requires (omega arith) (omega arith) c.loop-i.invariant.rest c.index-from-i.is

pub loop-i-preserved : goal.loop-i-preserved
loop-i-preserved g c = updated_more _ _ _ _ _ _ (omega arith) (omega arith) c.index-from-i.is c.f.ensures c.loop-i.invariant

pub returns : goal.returns
returns g c = updated_all _ _ _ _ _ (omega arith) (omega arith) c.loop-i.invariant
