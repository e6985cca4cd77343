-- The goals of `ring::sparse::row` that want an answer by hand. Assumes nothing.
use Rattle.std.proofs.lemmas.List.{length_push}
use Rattle.std.proofs.lemmas.Slice.Zip.{zip_turn, zip_end}
use Rattle.ring.proofs.SparseLaws.{summed_none, term_fits, summed_fits, summed_more, summed_all}
use Rattle.ring.proofs.sparse.row.Goals as goal

pub loop-p-init : goal.loop-p-init
loop-p-init g c = summed_none

pub overflow_mul-sum : goal.overflow_mul-sum
overflow_mul-sum g c =
    let t = zip_turn c.args.positions.now c.args.signs.now c.loop-p.yielded _ _ c.next.new.self _ (cc) (cc) c.loop-p.yielded_by _ c.in-Some.is c.next.ensures.steps in
    term_fits c.requires t c.loop-p.invariant c.from.ensures c.from-in-loop-p.ensures c.turned.ensures.is c.turned.ensures.small

pub overflow_add-sum : goal.overflow_add-sum
overflow_add-sum g c =
    let t = zip_turn c.args.positions.now c.args.signs.now c.loop-p.yielded _ _ c.next.new.self _ (cc) (cc) c.loop-p.yielded_by _ c.in-Some.is c.next.ensures.steps in
    summed_fits c.requires t c.loop-p.invariant c.from.ensures c.from-in-loop-p.ensures c.turned.ensures.is c.turned.ensures.small

pub loop-p-preserved : goal.loop-p-preserved
loop-p-preserved g c =
    let t = zip_turn c.args.positions.now c.args.signs.now c.loop-p.yielded _ _ c.next.new.self _ (cc) (cc) c.loop-p.yielded_by _ c.in-Some.is c.next.ensures.steps in
    rw length_push (summed_more c.requires t c.loop-p.invariant c.from.ensures c.from-in-loop-p.ensures c.turned.ensures.is c.turned.ensures.small)

pub returns : goal.returns
returns g c =
    summed_all c.requires.terms (zip_end c.args.positions.now c.args.signs.now c.loop-p.yielded _ _ c.next.new.self _ (cc) (cc) c.loop-p.yielded_by c.in-None.is c.next.ensures.steps) c.loop-p.invariant
