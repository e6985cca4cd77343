-- The loop of `ring::sums::update`. Assumes nothing.
use Rattle.ring.proofs.Loops.{Updated}
use Rattle.ring.proofs.sums.update.Given as goal

abbrev pub invariant-loop-i : goal.invariant-loop-i
invariant-loop-i g l = Updated (λ p z. goal.F-post g l.f p.0 p.1 z) l.initial.to l.from l.i l.to
