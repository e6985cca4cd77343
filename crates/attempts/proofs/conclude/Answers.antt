-- The goals of `attempts::conclude` that want an answer by hand. Assumes nothing.
use Rattle.attempts.proofs.AttemptSteps.{concluded_writes, concluded_passes, concluded_fails}
use borrow.Author.Rules.{rules}
use Rattle.attempts.proofs.conclude.Goals as goal

pub write_checked-requires : goal.write_checked-requires
write_checked-requires c = concluded_writes c.requires c.challenge.ensures c.respond.ensures c.if-respond.true (search rules) (search rules)

pub returns-then-respond : goal.returns-then-respond
returns-then-respond c = search (concluded_passes, rules)

pub returns-else-respond : goal.returns-else-respond
returns-else-respond c = search (concluded_fails, rules)
