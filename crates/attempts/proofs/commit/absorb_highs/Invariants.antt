-- The loop of `attempts::commit::absorb_highs`. Its invariant: the high parts of as many v_i are absorbed as came. Assumes nothing.
use Rattle.std.proofs.Common.{length}
use Rattle.whole.specs.Table.{joined}
use Rattle.highs.specs.Highs.{Held}
use Rattle.attempts.proofs.ProductSteps.{parts_of}
use Rattle.attempts.proofs.commit.absorb_highs.Given as goal

abbrev pub invariant-loop-v_i : goal.invariant-loop-v_i
invariant-loop-v_i l = Held l.set.numbers (joined (length l.yielded) (parts_of l.set.numbers l.v)) l.highs
