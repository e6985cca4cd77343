-- The goals of `keys::make` that want an answer by hand. Both records are written where every test passes. Assumes nothing.
use borrow.Author.Rules.{rules}
use Rattle.answers.specs.OutputLaws.{made}
use Rattle.answers.specs.ResultLaws.{answered_err, kept_err}
use Rattle.sets.specs.Known.{known_good}
use Rattle.keys.proofs.PassedSteps.{passed_public, passed_secret}
use Rattle.keys.proofs.RecordSteps.{secret_is}
use Rattle.keys.proofs.make.Goals as goal

pub test_inputs-requires : goal.test_inputs-requires
test_inputs-requires c = search (known_good, rules)

pub put_public-requires : goal.put_public-requires
put_public-requires c = search (passed_public, c.in_ok-test_inputs.ensures, rules)

pub put_secret-requires : goal.put_secret-requires
put_secret-requires c = search (passed_secret, c.in_ok-test_inputs.ensures, rules)

pub returns : goal.returns
returns c = search (made, secret_is, c.in_ok-test_inputs.ensures, rules)

pub returns-in_err-test_inputs : goal.returns-in_err-test_inputs
returns-in_err-test_inputs c = search (answered_err, kept_err, c.in_err-test_inputs.ensures, c.from_residual.ensures.1, rules)
