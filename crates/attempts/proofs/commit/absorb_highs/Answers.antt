-- The goals of `attempts::commit::absorb_highs` that want an answer by hand. Assumes nothing.
use Rattle.whole.specs.Table.{joined}
use Rattle.records.specs.ChunksLaws.{n_some, comes, ends}
use Rattle.attempts.proofs.ProductSteps.{absorbing_residues, absorbing_more, absorbing_all}
use Rattle.attempts.proofs.commit.absorb_highs.Goals as goal

pub no_highs-highs-requires : goal.no_highs-highs-requires
no_highs-highs-requires c = c.args.set.good

pub chunks_exact-v_i-items-requires : goal.chunks_exact-v_i-items-requires
chunks_exact-v_i-items-requires c = n_some c.args.set.good

pub loop-v_i-init : goal.loop-v_i-init
unfolding joined
loop-v_i-init c = c.no_highs-highs.ensures

pub add_highs-highs-requires : goal.add_highs-highs-requires
add_highs-highs-requires c =
    absorbing_residues
    (comes c.args.set.good _ c.requires.v_long c.into_iter-v_i-iterator.result (cc) (cc) _ _ c.loop-v_i.yielded_by _ c.in-Some.v_i c.in-Some.is c.next.ensures.steps)
    c.requires

pub loop-v_i-preserved : goal.loop-v_i-preserved
loop-v_i-preserved c =
    absorbing_more
    (comes c.args.set.good _ c.requires.v_long c.into_iter-v_i-iterator.result (cc) (cc) _ _ c.loop-v_i.yielded_by _ c.in-Some.v_i c.in-Some.is c.next.ensures.steps)
    c.loop-v_i.invariant c.add_highs-highs.ensures

pub returns : goal.returns
returns c =
    absorbing_all c.args.set.numbers c.args.v.now
    (ends c.args.set.good _ c.requires.v_long c.into_iter-v_i-iterator.result (cc) (cc) _ _ c.loop-v_i.yielded_by _ c.in-None.is c.next.ensures.steps)
    c.loop-v_i.invariant
