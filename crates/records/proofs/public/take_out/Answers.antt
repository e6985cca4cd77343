-- The goals of `records::public::take_out` that want an answer by hand. Assumes nothing.
use borrow.Author.Rules.{rules}
use Rattle.records.proofs.PublicSteps.{read_seed}
use Rattle.records.proofs.public.take_out.Goals as goal

pub returns : goal.returns
returns c = search (read_seed, rules)
