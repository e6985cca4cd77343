-- The goals of `attempts::row::draw_key` that want an answer by hand. Assumes nothing.
use Rattle.attempts.proofs.RowSteps.{key_row}
use borrow.Author.Rules.{rules}
use Rattle.attempts.proofs.row.draw_key.Goals as goal

pub returns : goal.returns
returns c = search (key_row, rules)
