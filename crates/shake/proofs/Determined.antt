-- The contracts of this crate's public functions determine their results, and that of `squeeze` also what stands in `out` at the end.
-- Assumes nothing.
use mathlib.Core.Path.{◌≡◌, sym, ap, ap₂, ◌∙◌}
use mathlib.Core.List.{List, [], ◌∷◌}
use Prim.Native.Nat.{ℕ}
use lib.ListN.{get_or}
use Rattle.whole.specs.Determined.{Result, Output}
use Rattle.shake.specs.declared.Sponge.{Sponge}
use Rattle.shake.specs.declared.OneByte.{OneByte}
use Rattle.shake.specs.declared.Block.{Block}
use Rattle.shake.proofs.Sponge.blank.Kinds as blank_kinds
use Rattle.shake.proofs.Sponge.blank.Reads as blank
use Rattle.shake.proofs.Sponge.absorb_byte.Kinds as absorb_byte_kinds
use Rattle.shake.proofs.Sponge.absorb_byte.Reads as absorb_byte_lem
use Rattle.shake.proofs.Sponge.absorb.Kinds as absorb_kinds
use Rattle.shake.proofs.Sponge.absorb.Reads as absorb
use Rattle.shake.proofs.Sponge.squeeze_byte.Kinds as squeeze_byte_kinds
use Rattle.shake.proofs.Sponge.squeeze_byte.Reads as squeeze_byte
use Rattle.shake.proofs.Sponge.squeeze_block.Kinds as squeeze_block_kinds
use Rattle.shake.proofs.Sponge.squeeze_block.Reads as squeeze_block
use Rattle.shake.proofs.Sponge.squeeze.Kinds as squeeze_kinds
use Rattle.shake.proofs.Sponge.squeeze.Reads as squeeze

pub blank_determined : Result 0 blank_kinds.ps blank_kinds.r blank.Learnt
blank_determined κs a x y e f p q = p ∙ sym q

pub absorb_byte_determined : Result 0 absorb_byte_kinds.ps absorb_byte_kinds.r absorb_byte_lem.Learnt
absorb_byte_determined κs a x y e f p q = p ∙ sym q

pub absorb_determined : Result 1 absorb_kinds.ps absorb_kinds.r absorb.Learnt
absorb_determined κs a x y e f p q = p ∙ sym q

-- a result is its two parts
one_byte : (x y : OneByte) → x.byte ∷ [] ≡ y.byte ∷ [] → x.state ≡ y.state → x ≡ y
one_byte x y e f = ap₂ (λ (s : Sponge) (b : ℕ). record { state = s; byte = b }) f (ap (λ (l : List ℕ). get_or l 0 0) e)

block : (x y : Block) → x.bytes ≡ y.bytes → x.state ≡ y.state → x ≡ y
block x y e f = ap₂ (λ (s : Sponge) (l : List ℕ). record { state = s; bytes = l }) f e

pub squeeze_byte_determined : Result 0 squeeze_byte_kinds.ps squeeze_byte_kinds.r squeeze_byte.Learnt
squeeze_byte_determined κs a x y e f p q = one_byte x y (p.0 ∙ sym q.0) (p.1 ∙ sym q.1)

pub squeeze_block_determined : Result 0 squeeze_block_kinds.ps squeeze_block_kinds.r squeeze_block.Learnt
squeeze_block_determined κs a x y e f p q = block x y (p.0 ∙ sym q.0) (p.1 ∙ sym q.1)

pub squeeze_determined : Result 1 squeeze_kinds.ps squeeze_kinds.r squeeze.Learnt
squeeze_determined κs a x y e f p q = p.0 ∙ sym q.0

pub squeeze_output_determined : Output 1 squeeze_kinds.ps squeeze_kinds.r squeeze.Learnt (λ κs e. e.1.0.now)
squeeze_output_determined κs a x y e f p q = p.1 ∙ sym q.1
