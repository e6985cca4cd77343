-- The goals of `sampling::in_few` that want an answer by hand. Assumes nothing.
use Rattle.std.proofs.Common.{rules, tests}
use lib.Dec.{eqb}
use Rattle.std.proofs.lemmas.Iterator.{YieldsList-from_slice}
use Rattle.std.proofs.lemmas.Iterator.Search.{any_from_yields_List}
use Rattle.sampling.proofs.PositionSteps.{contained}
use Rattle.sampling.proofs.in_few.Goals as goal

pub returns : goal.returns
returns c =
    contained _ _ (any_from_yields_List (λ y. eqb y c.args.p) _ _ _ c.any.ensures.ran (YieldsList-from_slice c.args.ps.now cc) (λ x b q k. search (rules, tests)))
