-- The contracts of this crate's public functions determine their results and what each output holds at exit. Assumes nothing.
use mathlib.Core.Path.{◌≡◌, sym, ap₂, ◌∙◌}
use mathlib.Core.Bool.{Bool}
use Rattle.whole.specs.Determined.{Result, Output}
use Rattle.shake.specs.declared.Sponge.{Sponge}
use Rattle.highs.specs.declared.Highs.{Highs}
use Rattle.highs.proofs.no_highs.Kinds as no_highs_kinds
use Rattle.highs.proofs.no_highs.Reads as no_highs
use Rattle.highs.proofs.add_highs.Kinds as add_highs_kinds
use Rattle.highs.proofs.add_highs.Reads as add_highs
use Rattle.highs.proofs.hash.Kinds as hash_kinds
use Rattle.highs.proofs.hash.Reads as hash

same : (x y : Highs) → x.state ≡ y.state → x.fit ≡ y.fit → x ≡ y
same x y e f = ap₂ (λ (s : Sponge) (b : Bool). record { state = s; fit = b }) e f

pub no_highs_determined : Result 0 no_highs_kinds.ps no_highs_kinds.r no_highs.Learnt
no_highs_determined κs a x y e f p q = same x y (p.state_is ∙ sym q.state_is) (p.fit_is ∙ sym q.fit_is)

pub add_highs_determined : Result 1 add_highs_kinds.ps add_highs_kinds.r add_highs.Learnt
add_highs_determined κs a x y e f p q = same x y (p.state_is ∙ sym q.state_is) (p.fit_is ∙ sym q.fit_is)

pub hash_determined : Output 3 hash_kinds.ps hash_kinds.r hash.Learnt (λ κs e. e.1.1.1.1.0.now)
hash_determined κs a x y e f p q = p.bytes ∙ sym q.bytes
