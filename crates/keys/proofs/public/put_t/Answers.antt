-- The goals of `keys::public::put_t` that want an answer by hand. Assumes nothing.
use Rattle.records.specs.ChunksLaws.{n_some, comes_numbered, ends_numbered}
use Rattle.keys.proofs.PutSteps.{turn_none, one_asks, turn_more, turn_all}
use Rattle.keys.proofs.public.put_t.Goals as goal

pub start_a-draw-requires : goal.start_a-draw-requires
start_a-draw-requires c = c.args.set.good

pub chunks_exact-requires : goal.chunks_exact-requires
chunks_exact-requires c = n_some c.args.set.good

pub loop-i-init : goal.loop-i-init
loop-i-init c = turn_none c.requires c.start_a-draw.ensures

pub put_next-draw-requires : goal.put_next-draw-requires
put_next-draw-requires c =
    one_asks c.requires c.loop-i.invariant
    (comes_numbered c.args.set.good _ c.requires.e_long c.into_iter-i-iterator.result (cc) (cc) (cc) _ _ c.loop-i.yielded_by _ _ c.in-Some.e_i c.in-Some.is c.next.ensures.steps)
    c.args.set.known

pub loop-i-preserved : goal.loop-i-preserved
loop-i-preserved c =
    turn_more c.requires c.loop-i.invariant
    (comes_numbered c.args.set.good _ c.requires.e_long c.into_iter-i-iterator.result (cc) (cc) (cc) _ _ c.loop-i.yielded_by _ _ c.in-Some.e_i c.in-Some.is c.next.ensures.steps)
    c.put_next-draw.ensures

pub returns : goal.returns
returns c =
    turn_all c.requires c.loop-i.invariant
    (ends_numbered c.args.set.good _ c.requires.e_long c.into_iter-i-iterator.result (cc) (cc) (cc) _ _ c.loop-i.yielded_by _ c.in-None.is c.next.ensures.steps)
