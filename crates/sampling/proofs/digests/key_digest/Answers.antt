-- `sampling::digests::key_digest` meets its contract: stream 5 of the packed t_1..t_k. Assumes nothing.
use borrow.Author.Rules.{rules}
use Rattle.whole.specs.BelowLaws.{below_bytes}
use Rattle.sampling.proofs.StreamSteps.{key_digested}
use Rattle.sampling.proofs.digests.key_digest.Goals as goal

pub returns : goal.returns
returns c = search (key_digested, below_bytes _ (λ i. (c.type_inv.packed_t i).fits), rules)
