-- The goals of `ring::sums::minus` that want an answer by hand. Assumes nothing.
use Rattle.ring.proofs.Numbers.{minus_low, minus_high}
use Rattle.std.proofs.Common.{rules}
use Rattle.ring.proofs.sums.minus.Goals as goal

pub returns-then-b-a : goal.returns-then-b-a
returns-then-b-a c = search (minus_low, rules)

pub returns-else-b-a : goal.returns-else-b-a
returns-else-b-a c = search (minus_high, rules)
