-- The goals of `envelope::open_roster` that want an answer by hand. Assumes nothing.
use borrow.Author.Rules.{rules}
use Rattle.envelope.specs.EnvelopeLaws.{opens_roster}
use Rattle.envelope.proofs.open_roster.Goals as goal

pub returns-in-Ok : goal.returns-in-Ok
returns-in-Ok c = search (opens_roster, c.in-Ok.ensures, rules)

pub returns-in-Err : goal.returns-in-Err
returns-in-Err c = search (opens_roster, c.in-Err.ensures, rules)
