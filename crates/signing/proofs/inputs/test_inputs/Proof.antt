-- `signing::inputs::test_inputs` meets its contract. Assumes nothing.
use borrow.Author.Rules.{rules}
use Rattle.answers.specs.TestLaws.{tests}
use Rattle.signing.specs.Sign.{sign_tests}
use Rattle.signing.proofs.inputs.test_inputs.Statement.{statement}
use Rattle.signing.proofs.inputs.test_inputs.Tie as tie

pub test_inputs_spec : {M : Type 1} → statement M
unfolding sign_tests
test_inputs_spec =
    tie.close
    (tie.spec
    (λ c κs. search rules)
    (λ c. search (tests, rules))
    (λ c κs. search rules)
    (λ c. search (tests, rules)))
