-- The contracts of this crate's public functions determine their results. Assumes nothing.
use mathlib.Core.Path.{sym, ◌∙◌}
use denote.RattleType.{RattleType}
use denote.Param.Laws.{Laws}
use Rattle.whole.specs.Determined.{Result}
use Rattle.answers.proofs.number.Kinds as number_kinds
use Rattle.answers.proofs.number.Reads as number
use Rattle.answers.proofs.U8FromRefusal.from.Kinds as from_kinds
use Rattle.answers.proofs.U8FromRefusal.from.Reads as from

pub number_determined : (T : RattleType) (laws : Laws T) → Result 2 (number_kinds.ps T laws) (number_kinds.r T laws) (number.Learnt T laws)
number_determined T laws κs a x y e f p q = p ∙ sym q

pub from_determined : Result 0 from_kinds.ps from_kinds.r from.Learnt
from_determined κs a x y e f p q = p ∙ sym q
