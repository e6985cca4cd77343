-- `sampling::digests::rand_of` meets its contract: stream 3 of seed_y, r and G of the message. Assumes nothing.
use borrow.Author.Rules.{rules}
use Rattle.whole.specs.BelowLaws.{below_bytes}
use Rattle.sampling.proofs.StreamSteps.{rand_made}
use Rattle.sampling.proofs.digests.rand_of.Goals as goal

pub returns : goal.returns
returns c = search (rand_made, below_bytes _ (λ i. (c.type_inv.seed_y i).fits), below_bytes _ (λ i. (c.type_inv.r i).fits), below_bytes _ (λ i. (c.type_inv.digest i).fits), rules)
