-- The loop of `ring::product::fold`. The sum stands for acc and the products so far. Assumes nothing.
use Rattle.std.proofs.Common.{length}
use Rattle.ring.proofs.ProductLaws.{After}
use Rattle.ring.proofs.product.fold.Given as goal

abbrev pub invariant-loop-a : goal.invariant-loop-a
invariant-loop-a l = After l.multiple l.acc l.x l.y (length l.yielded) l.sum
