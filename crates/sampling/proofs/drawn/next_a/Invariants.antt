-- The loop of `sampling::drawn::next_a`. Its invariant: what stands in the output and what the candidates to come give are together all the
-- values that were left. The measure is the number of candidates to come. Assumes nothing.
use mathlib.Core.List.{List}
use Prim.Native.Nat.{ℕ, ◌*◌}
use Rattle.shake.specs.Sponge.{squeezed}
use Rattle.sampling.specs.Candidates.{candidates}
use Rattle.sampling.specs.Values.{values}
use Rattle.sampling.proofs.DrawnSteps.{Squeezing}
use Rattle.sampling.proofs.drawn.next_a.Given as goal

abbrev pub invariant-loop-at : goal.invariant-loop-at
invariant-loop-at l =
    Squeezing (λ (vs : List ℕ). vs) 4 l.set.t_bits l.set.q (values l.set.q l.initial.need (candidates 4 l.set.t_bits (squeezed (4 * l.initial.left) l.initial.sponge)))
    l.initial.out l.initial.left l.initial.need l.out l.sponge l.left l.need l.at

abbrev pub decreases-loop-at : goal.decreases-loop-at
decreases-loop-at l = l.left
