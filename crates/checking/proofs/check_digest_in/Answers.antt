-- `checking::check_digest_in` meets its contract. The tests of the inputs, then the work. Assumes nothing.
use borrow.Author.Rules.{rules}
use Rattle.answers.specs.ResultLaws.{beyond_ok, before_err, answered_err}
use Rattle.checking.specs.Check.{digest_tests}
use Rattle.checking.proofs.CheckSteps.{inputs_numbered, inputs_tested}
use Rattle.checking.proofs.check_digest_in.Goals as goal

pub returns-in_err-test_inputs : goal.returns-in_err-test_inputs
unfolding digest_tests
returns-in_err-test_inputs c = search (before_err, answered_err, c.in_err-test_inputs.ensures, c.from_residual.ensures.1, rules)

pub check_hash-requires : goal.check_hash-requires
check_hash-requires c = search (inputs_tested, c.in_ok-test_inputs.ensures, rules)

pub returns : goal.returns
unfolding digest_tests
returns c = beyond_ok c.in_ok-test_inputs.ensures (inputs_numbered _ _ _ _) (search rules)
