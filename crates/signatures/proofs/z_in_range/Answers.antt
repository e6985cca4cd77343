-- The goal of `signatures::z_in_range` that wants an answer by hand. Assumes nothing.
use Rattle.std.proofs.Common.{rules, ◌∙◌, tests}
use Rattle.std.proofs.lemmas.Iterator.{YieldsList-from_slice}
use Rattle.std.proofs.lemmas.Iterator.Search.{all_from_yields_List}
use Rattle.records.proofs.Scans.{every_is}
use Rattle.rounding.specs.Tests.{z_passes}
use Rattle.signatures.specs.Signature.{z_in_range}
use Rattle.signatures.proofs.z_in_range.Goals as goal

pub returns : goal.returns
unfolding z_in_range z_passes
returns c = all_from_yields_List _ _ _ _ c.all.ensures.ran (YieldsList-from_slice c.args.z.now cc) (λ x b q k. search (rules, tests)) ∙ every_is _ _
