-- What is held decides what comes back. Assumes nothing.
use Rattle.roster.specs.HeldLaws.{held_decides}
use Rattle.roster.proofs.open_held.Goals as goal

pub returns : goal.returns
returns c = record { opens = λ input e. (held_decides input _ _ _).0 (rw e at c.open_input.ensures) }
