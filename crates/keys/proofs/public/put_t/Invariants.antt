-- The loop of `keys::public::put_t`: as many t_i stand packed in their stretches as e_i came, and the rest of the record is as it was.
-- Assumes nothing.
use Rattle.std.proofs.Common.{length}
use Rattle.keys.proofs.PutSteps.{Turn}
use Rattle.keys.proofs.public.put_t.Given as goal

abbrev pub invariant-loop-i : goal.invariant-loop-i
invariant-loop-i l = Turn l.set.numbers l.s l.e l.seed_a l.initial.public l.public l.draw (length l.yielded)
