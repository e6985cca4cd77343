-- The goals of `keccak::permute` that want an answer by hand. Assumes nothing.
use Rattle.std.proofs.Common.{◌∙◌, refl, rules}
use Rattle.std.proofs.lemmas.Iterator.{YieldsList-from_slice}
use Rattle.std.proofs.lemmas.Iterator.Consumers.{YieldsList-from_copied, fold_from_yields_List}
use Rattle.keccak.proofs.Rounds.{round_by, permuted}
use Rattle.keccak.proofs.permute.Goals as goal

pub returns : goal.returns
returns c = fold_from_yields_List _ round_by _ _ c.fold.ensures.ran (YieldsList-from_copied (YieldsList-from_slice c.all.result cc)) (λ a x b q k. (refl, k.met)) ∙ permuted _ _ (search rules) c.all.ensures
