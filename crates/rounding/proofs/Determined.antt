-- The contracts of this crate's public functions determine their results, and what `high_bytes` writes. Assumes nothing.
use mathlib.Core.Path.{◌∙◌, sym}
use Rattle.whole.specs.Determined.{Result, Output}
use Rattle.rounding.proofs.polynomial.high_bytes.Kinds as high_bytes_kinds
use Rattle.rounding.proofs.polynomial.high_bytes.Reads as high_bytes
use Rattle.rounding.proofs.polynomial.all_low.Kinds as all_low_kinds
use Rattle.rounding.proofs.polynomial.all_low.Reads as all_low
use Rattle.rounding.proofs.polynomial.all_sized.Kinds as all_sized_kinds
use Rattle.rounding.proofs.polynomial.all_sized.Reads as all_sized

pub high_bytes_determined : Result 2 high_bytes_kinds.ps high_bytes_kinds.r high_bytes.Learnt
high_bytes_determined κs a x y e f p q = p.0 ∙ sym q.0

-- the bytes, which are the fourth parameter at exit
pub high_bytes_written : Output 2 high_bytes_kinds.ps high_bytes_kinds.r high_bytes.Learnt (λ κs e. e.1.1.1.0.now)
high_bytes_written κs a x y e f p q = p.1 ∙ sym q.1

pub all_low_determined : Result 1 all_low_kinds.ps all_low_kinds.r all_low.Learnt
all_low_determined κs a x y e f p q = p ∙ sym q

pub all_sized_determined : Result 1 all_sized_kinds.ps all_sized_kinds.r all_sized.Learnt
all_sized_determined κs a x y e f p q = p ∙ sym q
