-- `envelope::parts::signature_in` meets its contract. Assumes nothing.
use borrow.Author.Rules.{rules}
use Rattle.envelope.proofs.PartLaws.{signature_after}
use Rattle.envelope.proofs.parts.signature_in.Statement.{statement}
use Rattle.envelope.proofs.parts.signature_in.Tie as tie

pub signature_in_spec : {M : Type 1} → statement M
signature_in_spec =
    tie.close
    (tie.spec
    (λ c κs. search rules)
    (λ c κs. search rules)
    (λ c κs. search rules)
    (λ c. search (signature_after, rules)))
