-- The contracts of this crate's public functions determine their results. Assumes nothing.
use mathlib.Core.Path.{◌∙◌, sym}
use Rattle.whole.specs.Determined.{Result, Held}
use Rattle.sets.proofs.SetIParameters.numbers.Kinds as numbers_kinds
use Rattle.sets.proofs.SetIParameters.numbers.Reads as numbers
use Rattle.sets.proofs.SetIIIParameters.numbers.Kinds as iii_numbers_kinds
use Rattle.sets.proofs.SetIIIParameters.numbers.Reads as iii_numbers
use Rattle.sets.proofs.Numbers.fresh.Kinds as fresh_kinds
use Rattle.sets.proofs.Numbers.fresh.Reads as fresh
use Rattle.sets.proofs.SetIParameters.fresh.Kinds as i_fresh_kinds
use Rattle.sets.proofs.SetIParameters.fresh.Reads as i_fresh
use Rattle.sets.proofs.SetIIIParameters.fresh.Kinds as iii_fresh_kinds
use Rattle.sets.proofs.SetIIIParameters.fresh.Reads as iii_fresh
use Rattle.sets.proofs.U8FromStream.from.Kinds as from_kinds
use Rattle.sets.proofs.U8FromStream.from.Reads as from
use Rattle.sets.proofs.Set.i.Kinds as i_kinds
use Rattle.sets.proofs.Set.i.Reads as i

pub numbers_determined : Result 0 numbers_kinds.ps numbers_kinds.r numbers.Learnt
numbers_determined κs a x y e f p q = p ∙ sym q

pub iii_numbers_determined : Result 0 iii_numbers_kinds.ps iii_numbers_kinds.r iii_numbers.Learnt
iii_numbers_determined κs a x y e f p q = p ∙ sym q

pub fresh_determined : Result 0 fresh_kinds.ps fresh_kinds.r fresh.Learnt
fresh_determined κs a x y e f p q = p ∙ sym q

pub i_fresh_determined : Result 0 i_fresh_kinds.ps i_fresh_kinds.r i_fresh.Learnt
i_fresh_determined κs a x y e f p q = p ∙ sym q

pub iii_fresh_determined : Result 0 iii_fresh_kinds.ps iii_fresh_kinds.r iii_fresh.Learnt
iii_fresh_determined κs a x y e f p q = p ∙ sym q

pub from_determined : Result 0 from_kinds.ps from_kinds.r from.Learnt
from_determined κs a x y e f p q = p ∙ sym q

-- of a set the numbers: the facts beside them are told by these
pub i_determined : Held 0 i_kinds.ps i_kinds.r i.Learnt (λ κs x. x.numbers)
i_determined κs a x y e f p q = p ∙ sym q
