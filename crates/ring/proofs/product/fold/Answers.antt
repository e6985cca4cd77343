-- The goals of `ring::product::fold` that want an answer by hand. Assumes nothing.
use Rattle.std.proofs.lemmas.Iterator.{YieldsList-from_zip, YieldsList-from_slice}
use Rattle.std.proofs.lemmas.Iterator.Adapters.{YieldsList-from_rev_slice}
use Rattle.std.proofs.lemmas.Iterator.Consumers.{YieldsList-turn, YieldsList-end}
use Rattle.std.proofs.lemmas.List.{length_push}
use Rattle.ring.proofs.ProductLaws.{after_none, next_fits, after_more, after_all}
use Rattle.ring.proofs.product.fold.Goals as goal

pub loop-a-init : goal.loop-a-init
loop-a-init c = after_none c.requires.start

pub added-sum-requires : goal.added-sum-requires
added-sum-requires c =
    let t = YieldsList-turn (YieldsList-from_zip (YieldsList-from_slice c.args.x.now cc) (YieldsList-from_rev_slice c.args.y.now cc)) c.loop-a.yielded _ c.loop-a.yielded_by _ c.next.new.self _ c.in-Some.is c.next.ensures.steps in
    next_fits c.requires t c.loop-a.invariant

pub loop-a-preserved : goal.loop-a-preserved
loop-a-preserved c =
    let t = YieldsList-turn (YieldsList-from_zip (YieldsList-from_slice c.args.x.now cc) (YieldsList-from_rev_slice c.args.y.now cc)) c.loop-a.yielded _ c.loop-a.yielded_by _ c.next.new.self _ c.in-Some.is c.next.ensures.steps in
    rw length_push (after_more c.requires t c.loop-a.invariant c.added-sum.ensures)

pub returns : goal.returns
returns c =
    after_all c.requires (YieldsList-end (YieldsList-from_zip (YieldsList-from_slice c.args.x.now cc) (YieldsList-from_rev_slice c.args.y.now cc)) c.loop-a.yielded _ c.loop-a.yielded_by _ c.next.new.self c.in-None.is c.next.ensures.steps).1 c.loop-a.invariant
