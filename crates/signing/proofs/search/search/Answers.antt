-- The goals of `signing::search::search` that want an answer by hand. Assumes nothing.
use Rattle.signing.proofs.SearchSteps.{searching_none, searching_found, searching_overflow, searching_more, searching_end}
use borrow.Author.Rules.{rules}
use Rattle.signing.proofs.search.search.Goals as goal

pub loop-counter-init : goal.loop-counter-init
loop-counter-init c = searching_none _ _ _

pub returns-in-Passes : goal.returns-in-Passes
returns-in-Passes c = search (searching_found, rules)

pub returns-in-Overflows : goal.returns-in-Overflows
returns-in-Overflows c = search (searching_overflow, rules)

pub loop-counter-preserved : goal.loop-counter-preserved
loop-counter-preserved c = search (searching_more, rules)

pub returns : goal.returns
returns c = search (searching_end, rules)
