-- The loop of `sampling::positions_stretch`. Its invariant: what is taken of the first candidates is stored. Assumes nothing.
use Rattle.sampling.proofs.PositionSteps.{Drawing}
use Rattle.sampling.proofs.positions_stretch.Given as goal

abbrev pub invariant-loop-bytes : goal.invariant-loop-bytes
invariant-loop-bytes l =
    Drawing l.n l.bits l.later l.stretch l.initial.positions l.initial.signs l.at l.positions l.signs l.next l.left l.bytes-index
