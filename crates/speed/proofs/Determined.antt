-- The contracts of what the bench calls determine the outputs. Assumes nothing.
use mathlib.Core.Path.{sym, ◌∙◌}
use Rattle.whole.specs.Determined.{Output}
use Rattle.speed.proofs.speed_permute.Kinds as permute_kinds
use Rattle.speed.proofs.speed_permute.Reads as permute
use Rattle.speed.proofs.speed_expand.Kinds as expand_kinds
use Rattle.speed.proofs.speed_expand.Reads as expand
use Rattle.speed.proofs.speed_pack.Kinds as pack_kinds
use Rattle.speed.proofs.speed_pack.Reads as pack
use Rattle.speed.proofs.speed_unpack.Kinds as unpack_kinds
use Rattle.speed.proofs.speed_unpack.Reads as unpack
use Rattle.speed.proofs.speed_multiply.Kinds as multiply_kinds
use Rattle.speed.proofs.speed_multiply.Reads as multiply

pub permute_lanes : Output 1 permute_kinds.ps permute_kinds.r permute.Learnt (λ κs e. e.0.now)
permute_lanes κs a x y e f p q = p ∙ sym q

pub expand_a : Output 2 expand_kinds.ps expand_kinds.r expand.Learnt (λ κs e. e.1.0.now)
expand_a κs a x y e f p q = p ∙ sym q

pub pack_out : Output 2 pack_kinds.ps pack_kinds.r pack.Learnt (λ κs e. e.1.0.now)
pack_out κs a x y e f p q = p.is ∙ sym q.is

pub unpack_t : Output 2 unpack_kinds.ps unpack_kinds.r unpack.Learnt (λ κs e. e.1.0.now)
unpack_t κs a x y e f p q = p ∙ sym q

pub multiply_out : Output 3 multiply_kinds.ps multiply_kinds.r multiply.Learnt (λ κs e. e.1.1.0.now)
multiply_out κs a x y e f p q = p.is ∙ sym q.is
