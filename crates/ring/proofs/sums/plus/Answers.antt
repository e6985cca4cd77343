-- The goals of `ring::sums::plus` that want an answer by hand. Assumes nothing.
use Rattle.std.proofs.Common.{rules}
use Rattle.ring.proofs.Numbers.{plus_low, plus_high}
use Rattle.ring.proofs.sums.plus.Goals as goal

pub returns-then-s-q : goal.returns-then-s-q
returns-then-s-q c = search (plus_low, rules)

pub returns-else-s-q : goal.returns-else-s-q
returns-else-s-q c = search (plus_high, rules)
