-- `checking::hash::judge` meets its contract. The tests 10 and 11 in this order. Assumes nothing.
use borrow.Author.Rules.{rules}
use Rattle.checking.proofs.HashSteps.{judged_high, judged_differs, judged_accepts}
use Rattle.checking.proofs.hash.judge.Goals as goal

pub returns-then-not-fit : goal.returns-then-not-fit
returns-then-not-fit c = search (judged_high, rules)

pub returns-then-not-same_bytes : goal.returns-then-not-same_bytes
returns-then-not-same_bytes c = search (judged_differs, rules)

pub returns : goal.returns
returns c = search (judged_accepts, rules)
