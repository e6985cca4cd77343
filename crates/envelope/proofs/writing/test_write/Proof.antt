-- `envelope::writing::test_write` meets its contract. The tests 1, 1, 2, 3 and 9 in this order. Assumes nothing.
use borrow.Author.Rules.{rules}
use Rattle.answers.specs.TestLaws.{tests}
use Rattle.sets.specs.Known.{known_good}
use Rattle.envelope.specs.Envelope.{write_tests}
use Rattle.envelope.proofs.writing.test_write.Statement.{statement}
use Rattle.envelope.proofs.writing.test_write.Tie as tie

pub test_write_spec : {M : Type 1} → statement M
unfolding write_tests
test_write_spec =
    tie.close
    (tie.spec
    (λ c κs. search (known_good, rules))
    (λ c. search (tests, rules))
    (λ c κs. search (known_good, rules))
    (λ c. search (tests, rules))
    (λ c κs. search rules)
    (λ c. search (tests, rules))
    (λ c. search (tests, rules) depth 12)
    (λ c κs. search rules)
    (λ c. search (tests, rules) depth 12)
    (λ c. search (tests, rules) depth 12))
