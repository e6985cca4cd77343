-- The goals of `rounding::polynomial::all_sized` that want an answer by hand. Assumes nothing.
use Rattle.std.proofs.Common.{rules, ◌∙◌}
use Rattle.std.proofs.lemmas.Iterator.{YieldsList-from_slice}
use Rattle.std.proofs.lemmas.Iterator.Adapters.{serves_from_places}
use Rattle.std.proofs.lemmas.Iterator.Search.{all_from_yields_List}
use Rattle.rounding.proofs.Items.{size_item, every_is}
use Rattle.rounding.proofs.polynomial.all_sized.Goals as goal

pub all-requires-clause-callable : goal.all-requires-clause-callable
all-requires-clause-callable c =
    serves_from_places (YieldsList-from_slice c.args.w.now cc) (λ x q k. search rules) (λ x k l e. let h = size_item c.requires l e in search rules)

pub returns : goal.returns
returns c = all_from_yields_List _ _ _ _ c.all.ensures.ran (YieldsList-from_slice c.args.w.now cc) (λ x b q k. search rules) ∙ every_is _ _
