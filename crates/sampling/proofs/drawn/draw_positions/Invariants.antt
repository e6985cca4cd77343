-- The loop of `sampling::drawn::draw_positions`. Its invariant: what stands in the outputs and what the candidates to come give are
-- together all the positions with signs. The measure is the number of candidates to come. Assumes nothing.
use Prim.Native.Nat.{◌*◌}
use lib.ListN.{length}
use Rattle.shake.specs.Sponge.{squeezed}
use Rattle.sampling.specs.Positions.{places_of}
use Rattle.sampling.proofs.DrawnSteps.{Gathering}
use Rattle.sampling.proofs.drawn.draw_positions.Given as goal

abbrev pub invariant-loop-at : goal.invariant-loop-at
invariant-loop-at l =
    Gathering l.n l.bits (places_of l.n l.bits (length l.initial.positions) (squeezed (3 * 256) l.initial.sponge)) l.initial.positions l.initial.signs l.positions l.signs l.sponge l.left l.at

abbrev pub decreases-loop-at : goal.decreases-loop-at
decreases-loop-at l = l.left
