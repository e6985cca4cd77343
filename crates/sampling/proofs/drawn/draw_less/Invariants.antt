-- The loop of `sampling::drawn::draw_less`. Its invariant: what stands in the output and what the candidates to come give are together all
-- the values, less b. The measure is the number of candidates to come. Assumes nothing.
use mathlib.Core.List.{map}
use Prim.Native.Nat.{◌+◌, ◌*◌, ◌-◌}
use lib.ListN.{length}
use Rattle.shake.specs.Sponge.{squeezed}
use Rattle.sampling.specs.Candidates.{candidates}
use Rattle.sampling.specs.Values.{values, less_of}
use Rattle.sampling.proofs.DrawnSteps.{Squeezing}
use Rattle.sampling.proofs.drawn.draw_less.Given as goal

abbrev pub invariant-loop-at : goal.invariant-loop-at
invariant-loop-at l =
    Squeezing (map (less_of l.b)) 3 l.bits (2 * l.b + 1)
    (map (less_of l.b) (values (2 * l.b + 1) (length l.initial.out) (candidates 3 l.bits (squeezed (3 * (2 * length l.initial.out)) l.initial.sponge))))
    l.initial.out l.initial.left (length l.initial.out) l.out l.sponge l.left (length l.initial.out - l.at) l.at

abbrev pub decreases-loop-at : goal.decreases-loop-at
decreases-loop-at l = l.left
