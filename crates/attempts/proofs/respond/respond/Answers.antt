-- The goals of `attempts::respond::respond` that want an answer by hand. Assumes nothing.
use Rattle.attempts.proofs.AttemptSteps.{key_responded}
use borrow.Author.Rules.{rules}
use Rattle.attempts.proofs.respond.respond.Goals as goal

pub returns : goal.returns
returns c = search (key_responded, rules)
