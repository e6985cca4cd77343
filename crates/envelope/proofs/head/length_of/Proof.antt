-- `envelope::head::length_of` meets its contract. Assumes nothing.
use borrow.Author.Rules.{rules}
use Rattle.envelope.specs.Envelope.{length_of}
use Rattle.envelope.proofs.head.length_of.Statement.{statement}
use Rattle.envelope.proofs.head.length_of.Tie as tie

pub length_of_spec : {M : Type 1} → statement M
unfolding length_of
length_of_spec =
    tie.close
    (tie.spec
    (λ c κs. search rules)
    (λ c κs. search rules)
    (λ c κs. search rules)
    (λ c. search rules)
    (λ c. search rules))
