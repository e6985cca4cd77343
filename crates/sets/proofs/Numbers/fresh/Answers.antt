-- The goals of `sets::Numbers::fresh` that want an answer by hand. Assumes nothing.
use borrow.Author.Rules.{rules}
use Rattle.sets.specs.Marks.{fresh}
use Rattle.sets.proofs.Numbers.fresh.Goals as goal

pub returns : goal.returns
unfolding fresh
returns c = search rules
