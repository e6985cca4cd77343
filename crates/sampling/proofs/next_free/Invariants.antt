-- The loop of `sampling::next_free`. Its invariant: the next free position from `at` on, with the steps left, is the one from p on.
-- Assumes nothing.
use Rattle.sampling.proofs.PositionSteps.{Freeing}
use Rattle.sampling.proofs.next_free.Given as goal

abbrev pub invariant-loop : goal.invariant-loop
invariant-loop l = Freeing l.n l.p l.ps l.at l.counter
