-- The contracts of `pack`, `unpack`, `to_bits` and `from_bits` determine their output, which is the third parameter at exit, and that of
-- `low` its result. Assumes nothing.
use mathlib.Core.Path.{sym, ◌∙◌}
use Rattle.whole.specs.Determined.{Result, Output}
use Rattle.packing.proofs.low.Kinds as low_kinds
use Rattle.packing.proofs.low.Reads as low
use Rattle.packing.proofs.pack.Kinds as pack_kinds
use Rattle.packing.proofs.pack.Reads as pack
use Rattle.packing.proofs.unpack.Kinds as unpack_kinds
use Rattle.packing.proofs.unpack.Reads as unpack
use Rattle.packing.proofs.twos.to_bits.Kinds as to_bits_kinds
use Rattle.packing.proofs.twos.to_bits.Reads as to_bits
use Rattle.packing.proofs.twos.from_bits.Kinds as from_bits_kinds
use Rattle.packing.proofs.twos.from_bits.Reads as from_bits

pub low_determined : Result 0 low_kinds.ps low_kinds.r low.Learnt
low_determined κs a x y e f p q = p ∙ sym q

pub pack_determined : Output 2 pack_kinds.ps pack_kinds.r pack.Learnt (λ κs e. e.1.1.0.now)
pack_determined κs a x y e f p q = p ∙ sym q

pub unpack_determined : Output 2 unpack_kinds.ps unpack_kinds.r unpack.Learnt (λ κs e. e.1.1.0.now)
unpack_determined κs a x y e f p q = p ∙ sym q

pub to_bits_determined : Output 2 to_bits_kinds.ps to_bits_kinds.r to_bits.Learnt (λ κs e. e.1.1.0.now)
to_bits_determined κs a x y e f p q = p ∙ sym q

pub from_bits_determined : Output 2 from_bits_kinds.ps from_bits_kinds.r from_bits.Learnt (λ κs e. e.1.1.0.now)
from_bits_determined κs a x y e f p q = p ∙ sym q
