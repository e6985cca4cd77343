-- The loop of `attempts::commit::products`. Its invariant: v_1..v_i are made. Assumes nothing.
use Rattle.attempts.proofs.ProductSteps.{Multiplying}
use Rattle.attempts.proofs.commit.products.Given as goal

abbrev pub invariant-loop-i : goal.invariant-loop-i
invariant-loop-i l = Multiplying l.set l.a l.yr l.initial.v l.v l.i
