-- The goals of `rounding::magnitude` that want an answer by hand. Assumes nothing.
use borrow.Author.Rules.{rules}
use Rattle.whole.specs.Int.{abs_neg}
use Rattle.rounding.proofs.Laws.{centred_low, centred_high}
use Rattle.rounding.proofs.magnitude.Goals as goal

pub returns-then-v-q : goal.returns-then-v-q
returns-then-v-q c = search (centred_low, rules)

pub returns-else-v-q : goal.returns-else-v-q
returns-else-v-q c = search (centred_high, abs_neg, rules)
