-- The goals of `highs::hash` that want an answer by hand. Assumes nothing.
use borrow.Author.Rules.{rules}
use Rattle.whole.specs.BelowLaws.{below_bytes}
use Rattle.highs.proofs.Steps.{highs_hashed}
use Rattle.highs.proofs.hash.Goals as goal

pub returns : goal.returns
returns c = search (highs_hashed, below_bytes _ (λ i. (c.type_inv.digest i).fits), below_bytes _ (λ i. (c.type_inv.g i).fits), rules)
