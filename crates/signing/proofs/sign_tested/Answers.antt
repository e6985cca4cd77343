-- The goals of `signing::sign_tested` that want an answer by hand. Assumes nothing.
use borrow.Author.Rules.{rules}
use Rattle.signing.proofs.SignSteps.{sign_found}
use Rattle.signing.proofs.sign_tested.Goals as goal

pub returns : goal.returns
returns c = search (sign_found, rules)
