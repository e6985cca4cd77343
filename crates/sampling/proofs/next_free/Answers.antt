-- The goals of `sampling::next_free` that want an answer by hand. Assumes nothing.
use mathlib.Core.Path.{sym, ◌∙◌}
use native.Mathlib.Omega.{arith}
use Rattle.sampling.proofs.PositionSteps.{contained, freeing_on, freeing_here, freeing_out}
use Rattle.sampling.proofs.next_free.Goals as goal

pub loop-preserved : goal.loop-preserved
loop-preserved c =
    freeing_on c.loop.invariant (sym (contained _ _ c.contains.ensures.value) ∙ c.if-not-contains.false) (omega arith) c.upward-at.ensures

pub returns-then-not-contains : goal.returns-then-not-contains
returns-then-not-contains c = freeing_here c.loop.invariant (sym (contained _ _ c.contains.ensures.value) ∙ c.if-not-contains.true)

pub returns : goal.returns
returns c = freeing_out c.loop.invariant (omega arith)
