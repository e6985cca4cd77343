-- `signing::hash_message` meets its contract. Assumes nothing.
use borrow.Author.Rules.{rules}
use Rattle.signing.proofs.SignSteps.{hashed}
use Rattle.signing.proofs.hash_message.Statement.{statement}
use Rattle.signing.proofs.hash_message.Tie as tie

pub hash_message_spec : {M : Type 1} → statement M
hash_message_spec =
    tie.close
    (tie.spec
    (λ c κs. search rules)
    (λ c κs. search rules)
    (λ c κs. search rules)
    (λ c. search rules)
    (λ c. search rules)
    (λ c. search rules)
    (λ c κs. search rules)
    (λ c. search (hashed, rules)))
