-- The loop of `checking::work::each_t`. Its invariant: the high parts of w_1..w_i are held. Assumes nothing.
use Rattle.checking.proofs.WorkSteps.{Turn}
use Rattle.checking.proofs.work.each_t.Given as goal

abbrev pub invariant-loop-i : goal.invariant-loop-i
invariant-loop-i l = Turn l.set.numbers l.public l.zr l.positions l.signs l.walk l.i
