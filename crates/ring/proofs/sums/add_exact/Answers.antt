-- The goals of `ring::sums::add_exact` that want an answer by hand. Assumes nothing.
use Rattle.std.proofs.Common.{pos, rules}
use Rattle.ring.proofs.Loops.{at_each, updated_is}
use Rattle.ring.proofs.sums.add_exact.Goals as goal

pub update-requires : goal.update-requires
update-requires c = at_each _ (pos 0) (pos 0) _ _ c.requires.long (λ i l. search rules)

pub returns : goal.returns
returns c = updated_is _ _ (pos 0) (pos 0) _ _ _ c.update.ensures c.requires.long (λ i z l h. search rules)
