-- The loop of `Sponge::squeeze`. The bytes before the index are written, and the state at hand gives the others. Assumes nothing.
use Rattle.shake.proofs.Steps.{state, Squeezing}
use Rattle.shake.proofs.Sponge.squeeze.Given as goal

abbrev pub invariant-loop-byte : goal.invariant-loop-byte
invariant-loop-byte l =
    Squeezing (state l.initial.lanes l.initial.place l.squeezing) (state l.lanes l.place l.squeezing) l.byte-items l.byte-index
