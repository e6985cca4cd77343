-- The goals of `records::public::pack_all` that want an answer by hand. Assumes nothing.
use Rattle.records.specs.ChunksLaws.{comes_numbered, ends_numbered}
use Rattle.records.proofs.PublicSteps.{writing_none, writing_packs, writing_more, writing_all}
use Rattle.records.proofs.public.pack_all.Goals as goal

pub loop-i-init : goal.loop-i-init
loop-i-init c = writing_none c.requires

pub pack_t-requires : goal.pack_t-requires
pack_t-requires c =
    writing_packs c.requires c.loop-i.invariant
    (comes_numbered c.requires.good _ c.requires.polynomials c.into_iter-i-iterator.result (cc) (cc) (cc) _ _ c.loop-i.yielded_by _ _ c.in-Some.t_i c.in-Some.is c.next.ensures.steps)

pub loop-i-preserved : goal.loop-i-preserved
loop-i-preserved c =
    writing_more c.requires c.loop-i.invariant
    (comes_numbered c.requires.good _ c.requires.polynomials c.into_iter-i-iterator.result (cc) (cc) (cc) _ _ c.loop-i.yielded_by _ _ c.in-Some.t_i c.in-Some.is c.next.ensures.steps)
    c.pack_t.ensures

pub returns : goal.returns
returns c =
    writing_all c.requires c.loop-i.invariant
    (ends_numbered c.requires.good _ c.requires.polynomials c.into_iter-i-iterator.result (cc) (cc) (cc) _ _ c.loop-i.yielded_by _ c.in-None.is c.next.ensures.steps)
