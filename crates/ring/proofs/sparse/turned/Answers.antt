-- The goals of `ring::sparse::turned` that want an answer by hand. Assumes nothing.
use Rattle.std.proofs.Common.{arith}
use Rattle.std.proofs.lemmas.Int.{ints}
use Rattle.ring.proofs.SparseLaws.{turned_low, turned_high}
use Rattle.ring.proofs.sparse.turned.Goals as goal

pub returns-then-p-k-clause-is : goal.returns-then-p-k-clause-is
returns-then-p-k-clause-is g c = grind (arith, ints, turned_low)

pub returns-else-p-k-clause-is : goal.returns-else-p-k-clause-is
returns-else-p-k-clause-is g c =
    let e = turned_high g.T.Coefficient.value c.args.f.now c.args.p c.args.k _ (omega arith) (omega arith) (omega arith) c.index-f-f.is in
    grind (arith, ints)
