-- The goals of `ring::sparse::times` that want an answer by hand. Assumes nothing.
use Rattle.std.proofs.Common.{arith}
use borrow.Author.Rules.{sfits_of}
use Rattle.whole.specs.Fill.{wrote_none, wrote_more}
use Rattle.ring.proofs.SparseLaws.{sparse_row_of}
use Rattle.ring.proofs.sparse.times.Goals as goal

pub loop-k-init : goal.loop-k-init
loop-k-init c = wrote_none

pub loop-k-preserved : goal.loop-k-preserved
loop-k-preserved c =
    wrote_more c.loop-k.invariant (omega arith)
    (sparse_row_of c.requires c.loop-k.k (omega arith) (omega arith) (sfits_of c.row.type_inv) c.row.ensures c.from.ensures c.rem_euclid.ensures.value c.rem_euclid.ensures.upper_bound)
