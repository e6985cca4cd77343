-- The goals of `ring::sparse::times_bytes` that want an answer by hand. Assumes nothing.
use Rattle.std.proofs.Common.{arith}
use Rattle.whole.specs.Fill.{wrote_none, wrote_more}
use Rattle.ring.proofs.SparseLaws.{byte_row_fits, byte_row_of}
use Rattle.ring.proofs.sparse.times_bytes.Goals as goal

pub loop-k-init : goal.loop-k-init
loop-k-init c = wrote_none

pub overflow_cast-place : goal.overflow_cast-place
overflow_cast-place c = byte_row_fits c.requires (λ i. (c.type_inv.s i).fits) c.loop-k.k (omega arith) c.row.ensures

pub loop-k-preserved : goal.loop-k-preserved
loop-k-preserved c = wrote_more c.loop-k.invariant (omega arith) (byte_row_of c.requires (λ i. (c.type_inv.s i).fits) c.loop-k.k (omega arith) c.row.ensures)
