-- The goals of `ring::largest::pick` that want an answer by hand. Assumes nothing.
use Rattle.std.proofs.Common.{length}
use Rattle.std.proofs.lemmas.Iterator.Adapters.{YieldsList-from_rev_slice}
use Rattle.std.proofs.lemmas.Iterator.Consumers.{YieldsList-end}
use Rattle.ring.proofs.Places.{places_back}
use Rattle.ring.proofs.largest.pick.Goals as goal

pub returns : goal.returns
returns c =
    let all = YieldsList-end (YieldsList-from_rev_slice c.args.e.now cc) c.loop-b.yielded _ c.loop-b.yielded_by _ _ c.in-None.is c.next.ensures.steps in
    cc (places_back (length c.args.slots.now) c.args.e.now)
