-- The goals of `records::secret::put_tail` that want an answer by hand. Assumes nothing.
use Rattle.records.proofs.SecretSteps.{put_tail_is}
use borrow.Author.Rules.{rules}
use Rattle.records.proofs.secret.put_tail.Goals as goal

pub returns : goal.returns
returns c = search (put_tail_is, rules)
