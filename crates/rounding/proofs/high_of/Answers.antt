-- The goals of `rounding::high_of` that want an answer by hand. Assumes nothing.
use borrow.Author.Rules.{rules}
use Rattle.rounding.proofs.Laws.{high_of_low, high_of_high}
use Rattle.rounding.proofs.high_of.Goals as goal

pub returns-then-v-middle : goal.returns-then-v-middle
returns-then-v-middle c = high_of_low c.requires c.half_step-half.ensures c.if-v-middle.true (search rules)

pub returns-else-v-middle : goal.returns-else-v-middle
returns-else-v-middle c = search (high_of_high, rules)
