-- The goals of `signing::sign_in` that want an answer by hand. Assumes nothing.
use borrow.Author.Rules.{rules}
use Rattle.sets.specs.Known.{known_good}
use Rattle.signing.proofs.SignSteps.{search_asked}
use Rattle.signing.proofs.sign_in.Goals as goal

pub test_inputs-requires : goal.test_inputs-requires
test_inputs-requires c = search (known_good, rules)

pub sign_tested-requires : goal.sign_tested-requires
sign_tested-requires c = search (search_asked, c.in_ok-test_inputs.ensures, known_good, rules)
