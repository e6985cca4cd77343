-- The goals of `ring::product::multiply` that want an answer by hand. Assumes nothing.
use Rattle.std.proofs.Common.{rules}
use Rattle.whole.specs.Fill.{wrote_none, wrote_more}
use Rattle.ring.proofs.ProductLaws.{row_of}
use Rattle.ring.proofs.product.multiply.Goals as goal

pub loop-k-init : goal.loop-k-init
loop-k-init c = wrote_none

pub loop-k-preserved : goal.loop-k-preserved
loop-k-preserved c = search (wrote_more, row_of, rules)
