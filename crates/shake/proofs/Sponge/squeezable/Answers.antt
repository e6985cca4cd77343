-- `Sponge::squeezable` meets its contract: its cases are the definition's. Assumes nothing.
use Rattle.std.proofs.Common.{sym, ap, ◌∙◌, false}
use Rattle.shake.specs.Sponge.{ended}
use Rattle.shake.specs.Pieces.{Sound, sound_absorbable, absorbable_is, squeezable_is, squeezable_ended}
use Rattle.shake.proofs.Steps.{absorbable_out, squeezable_out}
use Rattle.shake.proofs.Sponge.squeezable.Goals as goal
use Rattle.shake.proofs.Sponge.squeezable.Goals.{else-self-lt-RATE-via-then-self-lt-RATE+else-self, else-self-lt-RATE-via-else-self-lt-RATE}

pub ended-requires : goal.ended-requires
ended-requires c = rw c.absorbable.ensures (sound_absorbable c.args.self).within

pub returns-then-self : goal.returns-then-self
returns-then-self c = sym (squeezable_is c.args.self (record { phase = c.if-self.true; within = c.if-self-lt-RATE.true }))

pub returns-else-self-lt-RATE : goal.returns-else-self-lt-RATE
returns-else-self-lt-RATE c =
    let s = c.args.self in
    c.ended.ensures ∙ ap ended c.absorbable.ensures
    ∙ elim c.else-self-lt-RATE.branch [
      | else-self-lt-RATE-via-then-self-lt-RATE+else-self w ↦
          let absorbs : Sound false s = record { phase = w.if-self.false; within = w.if-self-lt-RATE.true } in
          ap ended (absorbable_is s absorbs) ∙ sym (squeezable_ended s absorbs)
      | else-self-lt-RATE-via-else-self-lt-RATE w ↦
          ap ended (absorbable_out s w.if-self-lt-RATE.false) ∙ sym (squeezable_out s w.if-self-lt-RATE.false)
    ]
