-- `Sponge::absorbable` meets its contract: its cases are the definition's. Assumes nothing.
use Rattle.std.proofs.Common.{sym, ◌∙◌}
use Rattle.std.proofs.lemmas.Bool.{not-true, not-false}
use Rattle.shake.specs.Pieces.{absorbable_is}
use Rattle.shake.proofs.Steps.{absorbable_squeezing, absorbable_out}
use Rattle.shake.proofs.Sponge.absorbable.Goals as goal
use Rattle.shake.proofs.Sponge.absorbable.Goals.{else-self-lt-RATE-via-then-self-lt-RATE+else-not-self, else-self-lt-RATE-via-else-self-lt-RATE}

pub returns-then-not-self : goal.returns-then-not-self
returns-then-not-self c =
    sym (absorbable_is c.args.self (record { phase = not-true c.args.self.squeezing c.if-not-self.true; within = c.if-self-lt-RATE.true }))

pub returns-else-self-lt-RATE : goal.returns-else-self-lt-RATE
returns-else-self-lt-RATE c =
    let s = c.args.self in
    c.blank.ensures
    ∙ sym (elim c.else-self-lt-RATE.branch [
      | else-self-lt-RATE-via-then-self-lt-RATE+else-not-self w ↦ absorbable_squeezing s (not-false s.squeezing w.if-not-self.false)
      | else-self-lt-RATE-via-else-self-lt-RATE w ↦ absorbable_out s w.if-self-lt-RATE.false
    ])
