-- `sampling::digests::joined_digest` meets its contract: stream 4 of two pieces, one after the other. Assumes nothing.
use borrow.Author.Rules.{rules}
use Rattle.whole.specs.BelowLaws.{below_bytes}
use Rattle.sampling.proofs.StreamSteps.{joined_digested}
use Rattle.sampling.proofs.digests.joined_digest.Goals as goal

pub returns : goal.returns
returns c = search (joined_digested, below_bytes _ (λ i. (c.type_inv.front i).fits), below_bytes _ (λ i. (c.type_inv.rest i).fits), rules)
