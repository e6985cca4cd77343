-- The goals of `ring::product::row` that want an answer by hand. Assumes nothing.
use Rattle.ring.proofs.ProductLaws.{row_is}
use Rattle.ring.proofs.product.row.Goals as goal

pub returns : goal.returns
returns c =
    rw c.from.ensures
    (row_is c.requires _ _ (rw (c.split_at.ensures.back, c.split_at-2.ensures.back) at c.fold-wrapped.ensures) (rw (c.split_at.ensures.front, c.split_at-2.ensures.front) at c.fold-sum.ensures))
