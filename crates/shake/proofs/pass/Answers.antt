-- `shake::pass` meets its contract: its cases are the definition's. Assumes nothing.
use Rattle.std.proofs.Common.{◌+◌, eq-eqb, ne_eqb}
use Rattle.shake.specs.Sponge.{passed}
use Rattle.shake.proofs.pass.Goals as goal

pub returns-then-p-eq-RATE : goal.returns-then-p-eq-RATE
unfolding passed
returns-then-p-eq-RATE c = λ q. rw (eq-eqb (c.args.p + 1) 136 c.if-p-eq-RATE.true, c.permute.ensures)

pub returns-else-p-eq-RATE : goal.returns-else-p-eq-RATE
unfolding passed
returns-else-p-eq-RATE c = λ q. rw (ne_eqb (c.args.p + 1) 136 c.if-p-eq-RATE.false)
