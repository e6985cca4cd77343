-- The goals of `signatures::take_out` that want an answer by hand. Assumes nothing.
use borrow.Author.Rules.{rules}
use Rattle.signatures.proofs.Steps.{take_c}
use Rattle.signatures.proofs.take_out.Goals as goal

pub returns : goal.returns
returns c = search (take_c, rules)
