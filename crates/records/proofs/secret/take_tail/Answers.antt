-- The goals of `records::secret::take_tail` that want an answer by hand. Assumes nothing.
use borrow.Author.Rules.{rules}
use Rattle.records.proofs.SecretSteps.{take_seed_a, take_seed_y, take_g}
use Rattle.records.proofs.secret.take_tail.Goals as goal

pub returns : goal.returns
returns c = search (take_seed_a, take_seed_y, take_g, rules)
