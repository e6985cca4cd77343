-- The goals of `attempts::row::draw_row` that want an answer by hand. Assumes nothing.
use Rattle.attempts.proofs.RowSteps.{drawing_none, drawing_more, drawing_all}
use borrow.Author.Rules.{rules}
use Rattle.attempts.proofs.row.draw_row.Goals as goal

pub loop-i-init : goal.loop-i-init
loop-i-init c = search (drawing_none, rules)

pub loop-i-preserved : goal.loop-i-preserved
loop-i-preserved c = search (drawing_more, rules)

pub returns : goal.returns
returns c = search (drawing_all, rules)
