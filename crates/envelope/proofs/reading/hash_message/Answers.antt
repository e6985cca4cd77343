-- The goals of `envelope::reading::hash_message` that want an answer by hand. Assumes nothing.
use borrow.Author.Rules.{rules}
use Rattle.envelope.proofs.ReadSteps.{message_hashed}
use Rattle.envelope.proofs.reading.hash_message.Goals as goal

pub returns : goal.returns
returns c = search (message_hashed, rules)
