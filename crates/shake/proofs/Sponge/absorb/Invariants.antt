-- The loop of `Sponge::absorb`. The state at hand comes to the same with the bytes that are left as what the absorb acts on with all of them.
-- Assumes nothing.
use Rattle.shake.proofs.Steps.{state, Absorbing}
use Rattle.shake.proofs.Sponge.absorb.Given as goal

abbrev pub invariant-loop-b : goal.invariant-loop-b
invariant-loop-b l =
    Absorbing (state l.initial.lanes l.initial.place l.squeezing) (state l.lanes l.place l.squeezing) l.bytes l.b-index
