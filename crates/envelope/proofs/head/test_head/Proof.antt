-- `envelope::head::test_head` meets its contract. The four tests in their order. Assumes nothing.
use borrow.Author.Rules.{rules}
use Rattle.answers.specs.TestLaws.{tests}
use Rattle.envelope.specs.Envelope.{head_tests}
use Rattle.envelope.proofs.HeadSteps.{length_read}
use Rattle.envelope.proofs.head.test_head.Statement.{statement}
use Rattle.envelope.proofs.head.test_head.Tie as tie

pub test_head_spec : {M : Type 1} → statement M
unfolding head_tests
test_head_spec =
    tie.close
    (tie.spec
    (λ c. search (tests, rules))
    (λ c κs. search rules)
    (λ c. search (tests, rules))
    (λ c κs. search rules)
    (λ c κs. search rules)
    (λ c. search (length_read, tests, rules) depth 12))
