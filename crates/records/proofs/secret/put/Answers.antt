-- The goals of `records::secret::put` that want an answer by hand. Assumes nothing.
use Rattle.records.proofs.SecretSteps.{put_is}
use borrow.Author.Rules.{rules}
use Rattle.records.proofs.secret.put.Goals as goal

pub returns : goal.returns
returns c = search (put_is, rules)
