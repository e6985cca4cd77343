-- The goals of `attempts::commit::commit` that want an answer by hand. Assumes nothing.
use Rattle.attempts.proofs.ProductSteps.{commit_small, commit_multiplies, commit_absorbs, commit_made}
use borrow.Author.Rules.{rules}
use Rattle.attempts.proofs.commit.commit.Goals as goal

pub residues_of-requires : goal.residues_of-requires
residues_of-requires c = search (commit_small, rules)

pub products-requires : goal.products-requires
products-requires c = search (commit_multiplies, rules)

pub absorb_highs-requires : goal.absorb_highs-requires
absorb_highs-requires c = search (commit_absorbs, rules)

pub returns : goal.returns
returns c = search (commit_made, rules)
