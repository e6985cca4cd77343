-- The goals of `ring::sums::add_bytes` that want an answer by hand. Assumes nothing.
use Rattle.std.proofs.Common.{rules}
use Rattle.ring.proofs.Loops.{at_each, updated_is}
use Rattle.ring.proofs.sums.add_bytes.Goals as goal

pub update-requires : goal.update-requires
update-requires c = at_each _ 0 0 _ _ c.requires.bytes.long (λ i l. search rules)

pub returns : goal.returns
returns c = updated_is _ _ 0 0 _ _ _ c.update.ensures c.requires.bytes.long (λ i z l h. search rules)
