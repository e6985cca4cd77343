-- The loop of `attempts::row::draw_row`. Its invariant: a_1..a_i are drawn. Assumes nothing.
use Rattle.attempts.proofs.RowSteps.{Drawing}
use Rattle.attempts.proofs.row.draw_row.Given as goal

abbrev pub invariant-loop-i : goal.invariant-loop-i
invariant-loop-i l = Drawing l.set l.seed_a l.initial.a l.a l.stream l.i
