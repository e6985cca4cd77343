-- The goals of `signatures::bits_in_range` that want an answer by hand. Assumes nothing.
use Rattle.std.proofs.Common.{rules, ◌∙◌, sym, tests}
use Rattle.std.proofs.lemmas.Iterator.{YieldsList-from_slice}
use Rattle.std.proofs.lemmas.Iterator.Adapters.{serves_from_places}
use Rattle.std.proofs.lemmas.Iterator.Search.{all_from_yields_List}
use Rattle.whole.specs.EveryLaws.{every_map}
use Rattle.whole.specs.Twos.{signed}
use Rattle.records.proofs.Scans.{every_is}
use Rattle.signatures.proofs.Sizes.{size_asks}
use Rattle.rounding.specs.Tests.{z_passes}
use Rattle.signatures.proofs.bits_in_range.Goals as goal

pub all-requires-clause-callable : goal.all-requires-clause-callable
all-requires-clause-callable c =
    serves_from_places (YieldsList-from_slice c.args.x.now cc) (λ x q k. search rules) (λ x k l e. let h = size_asks c.requires l e in search rules)

pub returns : goal.returns
unfolding z_passes
returns c =
    all_from_yields_List (λ x. z_passes c.args.bound (signed c.args.b x)) _ _ _ c.all.ensures.ran (YieldsList-from_slice c.args.x.now cc) (λ x b q k. search (rules, tests))
    ∙ every_is _ _ ∙ sym (every_map _ _ _)
