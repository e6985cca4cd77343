-- `sampling::digests::close_message` meets its contract. Assumes nothing.
use borrow.Author.Rules.{rules}
use Rattle.sampling.proofs.StreamSteps.{message_closed}
use Rattle.sampling.proofs.digests.close_message.Goals as goal

pub returns : goal.returns
returns c = search (message_closed, rules)
