-- The goals of `records::public::t_passes_in` that want an answer by hand. Assumes nothing.
use Rattle.std.proofs.Common.{rules}
use Rattle.records.proofs.PublicSteps.{all_in_range, one_outside}
use Rattle.records.proofs.public.t_passes_in.Goals as goal

pub returns-then-not-passes : goal.returns-then-not-passes
returns-then-not-passes c = search (one_outside, rules)

pub returns : goal.returns
returns c = search (all_in_range, rules)
