-- `checking::work::public_g` meets its contract. Assumes nothing.
use borrow.Author.Rules.{rules}
use Rattle.checking.proofs.WorkSteps.{g_is}
use Rattle.checking.proofs.work.public_g.Statement.{statement}
use Rattle.checking.proofs.work.public_g.Tie as tie

pub public_g_spec : {M : Type 1} → statement M
public_g_spec =
    tie.close
    (tie.spec
    (λ c κs. search rules)
    (λ c. search rules)
    (λ c. search rules)
    (λ c. search rules)
    (λ c κs. search rules)
    (λ c. search (g_is, rules)))
