-- `envelope::writing::put_numbers` meets its contract. Assumes nothing.
use borrow.Author.Rules.{rules}
use Rattle.envelope.proofs.WriteSteps.{numbers_put}
use Rattle.envelope.proofs.writing.put_numbers.Statement.{statement}
use Rattle.envelope.proofs.writing.put_numbers.Tie as tie

pub put_numbers_spec : {M : Type 1} → statement M
put_numbers_spec =
    tie.close
    (tie.spec
    (λ c κs. search rules)
    (λ c κs. search rules)
    (λ c. search rules)
    (λ c κs. search rules)
    (λ c. search rules)
    (λ c κs. search rules)
    (λ c. search rules)
    (λ c. search (numbers_put, rules)))
