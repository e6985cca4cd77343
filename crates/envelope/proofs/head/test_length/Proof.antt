-- `envelope::head::test_length` meets its contract. Assumes nothing.
use borrow.Author.Rules.{rules}
use Rattle.answers.specs.TestLaws.{tests}
use Rattle.envelope.proofs.head.test_length.Statement.{statement}
use Rattle.envelope.proofs.head.test_length.Tie as tie

pub test_length_spec : {M : Type 1} → statement M
test_length_spec =
    tie.close
    (tie.spec
    (λ c. search (tests, rules))
    (λ c κs. search rules)
    (λ c. search (tests, rules))
    (λ c. search (tests, rules)))
