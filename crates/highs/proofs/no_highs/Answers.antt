-- The goals of `highs::no_highs` that want an answer by hand. Assumes nothing.
use borrow.Author.Rules.{rules}
use Rattle.highs.proofs.Steps.{held_none}
use Rattle.highs.proofs.no_highs.Goals as goal

pub returns : goal.returns
returns c = search (held_none, rules)
