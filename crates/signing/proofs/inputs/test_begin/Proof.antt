-- `signing::inputs::test_begin` meets its contract. Assumes nothing.
use borrow.Author.Rules.{rules}
use Rattle.answers.specs.TestLaws.{tests}
use Rattle.signing.proofs.SignSteps.{secrets_asked, secrets_lent}
use Rattle.signing.specs.Sign.{begin_tests}
use Rattle.signing.proofs.inputs.test_begin.Statement.{statement}
use Rattle.signing.proofs.inputs.test_begin.Tie as tie

pub test_begin_spec : {M : Type 1} → statement M
unfolding begin_tests
test_begin_spec =
    tie.close
    (tie.spec
    (λ c κs. search rules)
    (λ c. search (tests, rules))
    (λ c. search (tests, rules))
    (λ c κs. search rules)
    (λ c. search (tests, rules) depth 12)
    (λ c κs. search rules)
    (λ c. search (tests, rules) depth 12)
    (λ c. search (tests, rules) depth 12)
    (λ c. search (tests, rules) depth 12)
    (λ c κs. search rules)
    (λ c κs. search rules)
    (λ c. search rules)
    (λ c. search rules)
    (λ c. search rules)
    (λ c. search rules)
    (λ c. search rules)
    (λ c. search rules)
    (λ c κs. search (secrets_asked, rules))
    (λ c. search (secrets_lent, tests, rules) depth 14))
