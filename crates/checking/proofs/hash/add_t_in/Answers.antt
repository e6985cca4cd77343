-- The goals of `checking::hash::add_t_in` that want an answer by hand. Assumes nothing.
use borrow.Author.Rules.{rules}
use Rattle.checking.proofs.HashSteps.{w_asks}
use Rattle.checking.proofs.hash.add_t_in.Goals as goal

pub one_w-requires : goal.one_w-requires
one_w-requires c = search (w_asks, rules)
