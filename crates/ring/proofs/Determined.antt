-- The contracts of this crate's public functions determine their results, and what they leave in the lists that they write.
-- Assumes nothing.
use Rattle.std.proofs.Common.{◌∙◌, sym}
use Rattle.whole.specs.Determined.{Result, Output}
use Rattle.ring.proofs.product.multiply.Kinds as multiply_kinds
use Rattle.ring.proofs.product.multiply.Reads as multiply
use Rattle.ring.proofs.sparse.times.Kinds as times_kinds
use Rattle.ring.proofs.sparse.times.Reads as times
use Rattle.ring.proofs.sparse.times_bytes.Kinds as times_bytes_kinds
use Rattle.ring.proofs.sparse.times_bytes.Reads as times_bytes
use Rattle.ring.proofs.sums.add_bytes.Kinds as add_bytes_kinds
use Rattle.ring.proofs.sums.add_bytes.Reads as add_bytes
use Rattle.ring.proofs.sums.subtract_small.Kinds as subtract_small_kinds
use Rattle.ring.proofs.sums.subtract_small.Reads as subtract_small
use Rattle.ring.proofs.sums.subtract.Kinds as subtract_kinds
use Rattle.ring.proofs.sums.subtract.Reads as subtract
use Rattle.ring.proofs.sums.add_exact.Kinds as add_exact_kinds
use Rattle.ring.proofs.sums.add_exact.Reads as add_exact
use Rattle.ring.proofs.sums.residues_of.Kinds as residues_of_kinds
use Rattle.ring.proofs.sums.residues_of.Reads as residues_of
use Rattle.ring.proofs.sums.residues_of_bytes.Kinds as residues_of_bytes_kinds
use Rattle.ring.proofs.sums.residues_of_bytes.Reads as residues_of_bytes
use Rattle.ring.proofs.largest.sum_passes.Kinds as sum_passes_kinds
use Rattle.ring.proofs.largest.sum_passes.Reads as sum_passes

pub multiply_determined : Output 3 multiply_kinds.ps multiply_kinds.r multiply.Learnt (λ κs e. e.1.1.1.0.now)
multiply_determined κs a x y e f p q = p ∙ sym q

pub times_determined : Output 4 times_kinds.ps times_kinds.r times.Learnt (λ κs e. e.1.1.1.1.0.now)
times_determined κs a x y e f p q = p ∙ sym q

pub times_bytes_determined : Output 4 times_bytes_kinds.ps times_bytes_kinds.r times_bytes.Learnt (λ κs e. e.1.1.1.0.now)
times_bytes_determined κs a x y e f p q = p ∙ sym q

pub add_bytes_determined : Output 2 add_bytes_kinds.ps add_bytes_kinds.r add_bytes.Learnt (λ κs e. e.0.now)
add_bytes_determined κs a x y e f p q = p ∙ sym q

pub subtract_small_determined : Output 2 subtract_small_kinds.ps subtract_small_kinds.r subtract_small.Learnt (λ κs e. e.0.now)
subtract_small_determined κs a x y e f p q = p ∙ sym q

pub subtract_determined : Output 2 subtract_kinds.ps subtract_kinds.r subtract.Learnt (λ κs e. e.0.now)
subtract_determined κs a x y e f p q = p ∙ sym q

pub add_exact_determined : Output 2 add_exact_kinds.ps add_exact_kinds.r add_exact.Learnt (λ κs e. e.0.now)
add_exact_determined κs a x y e f p q = p ∙ sym q

pub residues_of_determined : Output 2 residues_of_kinds.ps residues_of_kinds.r residues_of.Learnt (λ κs e. e.1.1.0.now)
residues_of_determined κs a x y e f p q = p ∙ sym q

pub residues_of_bytes_determined : Output 2 residues_of_bytes_kinds.ps residues_of_bytes_kinds.r residues_of_bytes.Learnt (λ κs e. e.1.1.0.now)
residues_of_bytes_determined κs a x y e f p q = p ∙ sym q

pub sum_passes_determined : Result 2 sum_passes_kinds.ps sum_passes_kinds.r sum_passes.Learnt
sum_passes_determined κs a x y e f p q = p.0 ∙ sym q.0

pub sum_passes_places_determined : Output 2 sum_passes_kinds.ps sum_passes_kinds.r sum_passes.Learnt (λ κs e. e.1.0.now)
sum_passes_places_determined κs a x y e f p q = p.1 ∙ sym q.1
