-- `keys::secret::put_secret` meets its contract. g of the stretch of packed t_1..t_k, and the record with it. Assumes nothing.
use borrow.Author.Rules.{rules}
use Rattle.keys.proofs.RecordSteps.{g_placed}
use Rattle.keys.proofs.secret.put_secret.Statement.{statement}
use Rattle.keys.proofs.secret.put_secret.Tie as tie

pub put_secret_spec : {M : Type 1} → statement M
put_secret_spec =
    tie.close
    (tie.spec
    (λ c κs. search rules)
    (λ c. search rules)
    (λ c. search rules)
    (λ c. search rules)
    (λ c. search rules)
    (λ c κs. search rules)
    (λ c. search rules)
    (λ c κs. search rules)
    (λ c. search rules)
    (λ c. search (g_placed, rules)))
