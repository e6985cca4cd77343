-- The loop of `attempts::respond::w_tests`. Its invariant: the w_i that came pass. Assumes nothing.
use Rattle.std.proofs.Common.{◌≡◌, ℕ, ◌<◌, true, length}
use Rattle.attempts.proofs.TestSteps.{passes_w}
use Rattle.attempts.proofs.respond.w_tests.Given as goal

abbrev pub invariant-loop-e_i : goal.invariant-loop-e_i
invariant-loop-e_i l =
    record {
      can_next : (goal.iterator-loop-e_i).can_next l.e_i-iterator;
      is_finite : (goal.iterator-loop-e_i).is_finite l.e_i-iterator;
      passed : (j : ℕ) → j < length l.yielded → passes_w l.set l.e l.fn.v l.positions l.signs j ≡ true;
    }
