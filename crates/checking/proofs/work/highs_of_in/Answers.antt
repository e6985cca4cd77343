-- `checking::work::highs_of_in` meets its contract. c is drawn from c', and each w_i follows. Assumes nothing.
use borrow.Author.Rules.{rules}
use Rattle.checking.proofs.WorkSteps.{each_asks}
use Rattle.checking.proofs.work.highs_of_in.Goals as goal

pub each_t-requires : goal.each_t-requires
each_t-requires c = search (each_asks, c.draw_enc.ensures, rules)
