-- The goals of `sampling::among` that want an answer by hand. Assumes nothing.
use Rattle.std.proofs.Common.{◌∙◌, refl}
use Rattle.sampling.proofs.PositionSteps.{contained, in_parts}
use Rattle.sampling.proofs.among.Goals as goal

pub returns-then-in_few : goal.returns-then-in_few
returns-then-in_few c =
    c.if-in_few.true ∙ rw c.if-in_few.true at (in_parts c.args.p 8 c.args.ps.now (rw c.in-Some.ensures.cases.0 at c.in_few.ensures) refl)

pub returns-else-in_few : goal.returns-else-in_few
returns-else-in_few c =
    rw c.if-in_few.false at
    (in_parts c.args.p 8 c.args.ps.now (rw c.in-Some.ensures.cases.0 at c.in_few.ensures) (contained _ _ (rw c.in-Some.ensures.cases.1 at c.contains.ensures.value)))
