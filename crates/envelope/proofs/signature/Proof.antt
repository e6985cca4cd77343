-- `envelope::signature` meets its contract. It is `signature_in` in set I. Assumes nothing.
use borrow.Author.Rules.{rules}
use Rattle.sets.specs.SetI.{good_i}
use Rattle.envelope.proofs.ReadSteps.{signature_i}
use Rattle.envelope.proofs.signature.Statement.{statement}
use Rattle.envelope.proofs.signature.Tie as tie

pub signature_spec : {M : Type 1} → statement M
signature_spec =
    tie.close
    (tie.spec
    (λ c κs. search rules)
    (λ c κs. search (good_i, rules))
    (λ c. search (signature_i, rules)))
