-- The goals of `records::secret::take_out` that want an answer by hand. Assumes nothing.
use borrow.Author.Rules.{rules}
use Rattle.records.proofs.SecretSteps.{take_s, take_e}
use Rattle.records.proofs.secret.take_out.Goals as goal

pub returns : goal.returns
returns c = search (take_s, take_e, rules)
