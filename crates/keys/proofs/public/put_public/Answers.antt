-- The goals of `keys::public::put_public` that want an answer by hand: the mark, t_1..t_k, seed_a. Assumes nothing.
use borrow.Author.Rules.{rules}
use Rattle.sets.specs.Known.{known_good}
use Rattle.keys.proofs.RecordSteps.{public_is}
use Rattle.keys.proofs.public.put_public.Goals as goal

pub seed_start-requires : goal.seed_start-requires
seed_start-requires c = search (known_good, rules)

pub returns : goal.returns
returns c = search (public_is, rules)
