-- The goals of `checking::work::each_t` that want an answer by hand. Assumes nothing.
use Rattle.std.proofs.Common.{rules}
use Rattle.checking.specs.StepsLaws.{walked_more}
use Rattle.checking.proofs.WorkSteps.{turn_none, turn_asks}
use Rattle.checking.proofs.work.each_t.Goals as goal

pub loop-i-init : goal.loop-i-init
loop-i-init c = search (turn_none, rules)

pub add_t-walk-requires : goal.add_t-walk-requires
add_t-walk-requires c = search (turn_asks, rules)

pub loop-i-preserved : goal.loop-i-preserved
loop-i-preserved c = search (walked_more, rules)
