-- The goals of `sampling::placed` that want an answer by hand. Assumes nothing.
use mathlib.Core.Path.{sym, ap, ◌∙◌}
use mathlib.Core.List.{[], ◌∷◌}
use native.Mathlib.Omega.{arith}
use Rattle.sampling.specs.Stretches.{drawn_as}
use Rattle.sampling.proofs.PositionSteps.{one_fresh, one_moved, one_repeated}
use Rattle.sampling.proofs.placed.Goals as goal

pub returns-then-not-among : goal.returns-then-not-among
returns-then-not-among c s = one_fresh _ _ _ _ _ (omega arith) (sym c.among.ensures ∙ c.if-not-among.true)

pub returns-then-left-need : goal.returns-then-left-need
returns-then-left-need c s =
    one_moved _ _ _ _ _ (omega arith) (sym c.among.ensures ∙ c.if-not-among.false) (omega arith)
    ∙ ap (λ q. drawn_as q s ∷ []) (sym c.next_free.ensures)

pub returns-else-left-need : goal.returns-else-left-need
returns-else-left-need c s =
    one_repeated _ _ _ _ _ (omega arith) (sym c.among.ensures ∙ c.if-not-among.false) (omega arith)
