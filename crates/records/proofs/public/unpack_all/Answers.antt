-- The goals of `records::public::unpack_all` that want an answer by hand. Assumes nothing.
use borrow.Author.Rules.{rules}
use Rattle.records.proofs.PublicSteps.{reading_none, reading_more, reading_all}
use Rattle.records.proofs.public.unpack_all.Goals as goal

pub loop-i-init : goal.loop-i-init
loop-i-init c = search (reading_none, rules)

pub loop-i-preserved : goal.loop-i-preserved
loop-i-preserved c = search (reading_more, rules)

pub returns : goal.returns
returns c = search (reading_all, rules)
