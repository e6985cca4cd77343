-- The goals of `highs::add_highs_in` that want an answer by hand. Assumes nothing.
use borrow.Author.Rules.{rules}
use Rattle.highs.proofs.Steps.{highs_added}
use Rattle.highs.proofs.add_highs_in.Goals as goal

pub returns : goal.returns
returns c = search (highs_added, rules)
