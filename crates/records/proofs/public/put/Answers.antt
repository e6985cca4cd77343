-- The goals of `records::public::put` that want an answer by hand. Assumes nothing.
use Rattle.records.proofs.PublicSteps.{put_is}
use borrow.Author.Rules.{rules}
use Rattle.records.proofs.public.put.Goals as goal

pub returns : goal.returns
returns c = search (put_is, rules)
