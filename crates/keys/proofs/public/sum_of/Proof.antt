-- `keys::public::sum_of` meets its contract. The product and the sum, each modulo q. Assumes nothing.
use borrow.Author.Rules.{rules}
use Rattle.keys.proofs.SumSteps.{product_asks, sum_asks, sum_is}
use Rattle.keys.proofs.public.sum_of.Statement.{statement}
use Rattle.keys.proofs.public.sum_of.Tie as tie

pub sum_of_spec : {M : Type 1} → statement M
sum_of_spec =
    tie.close
    (tie.spec
    (λ c κs. search rules)
    (λ c κs. search (product_asks, rules))
    (λ c κs. search (sum_asks, rules))
    (λ c. search rules)
    (λ c. search rules)
    (λ c. search (sum_is, rules)))
