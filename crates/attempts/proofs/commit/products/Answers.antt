-- The goals of `attempts::commit::products` that want an answer by hand. Assumes nothing.
use Rattle.attempts.proofs.ProductSteps.{multiplying_none, multiplying_more, multiplying_all}
use borrow.Author.Rules.{rules}
use Rattle.attempts.proofs.commit.products.Goals as goal

pub loop-i-init : goal.loop-i-init
loop-i-init c = search (multiplying_none, rules)

pub loop-i-preserved : goal.loop-i-preserved
loop-i-preserved c = search (multiplying_more, rules)

pub returns : goal.returns
returns c = search (multiplying_all, rules)
