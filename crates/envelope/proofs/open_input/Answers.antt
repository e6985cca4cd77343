-- The goals of `envelope::open_input` that want an answer by hand. Assumes nothing.
use borrow.Author.Rules.{rules}
use Rattle.envelope.proofs.InputSteps.{too_short, opens_input}
use Rattle.envelope.proofs.open_input.Goals as goal

pub returns-then-input-end : goal.returns-then-input-end
returns-then-input-end c = search (too_short, rules)

pub returns : goal.returns
returns c = search (opens_input, rules)
