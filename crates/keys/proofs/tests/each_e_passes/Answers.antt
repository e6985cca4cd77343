-- The goal of `keys::tests::each_e_passes` that wants an answer by hand. Assumes nothing.
use Rattle.std.proofs.Common.{rules, ◌∙◌, tests}
use Rattle.std.proofs.lemmas.Iterator.Search.{all_from_yields_List}
use Rattle.ring.specs.Largest.{sum_passes}
use Rattle.records.specs.ChunksLaws.{yields_polynomials}
use Rattle.records.proofs.Scans.{every_table}
use Rattle.keys.specs.Key.{each_e_passes}
use Rattle.keys.proofs.tests.each_e_passes.Goals as goal

pub returns : goal.returns
unfolding each_e_passes
returns c =
    all_from_yields_List (sum_passes c.args.set.h c.args.set.e) _ _ _ c.all.ensures.ran
    (yields_polynomials c.requires.good c.args.e.now c.requires.e_long c.chunks_exact.result (cc) (cc)) (λ x b q k. search (rules, tests))
    ∙ every_table _ _ _
