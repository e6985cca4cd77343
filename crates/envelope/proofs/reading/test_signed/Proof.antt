-- `envelope::reading::test_signed` meets its contract. Assumes nothing.
use borrow.Author.Rules.{rules}
use Rattle.answers.specs.TestLaws.{tests}
use Rattle.envelope.proofs.reading.test_signed.Statement.{statement}
use Rattle.envelope.proofs.reading.test_signed.Tie as tie

pub test_signed_spec : {M : Type 1} → statement M
test_signed_spec =
    tie.close
    (tie.spec
    (λ c κs. search rules)
    (λ c. search (tests, rules))
    (λ c κs. search rules)
    (λ c. search (tests, rules))
    (λ c. search (tests, rules)))
