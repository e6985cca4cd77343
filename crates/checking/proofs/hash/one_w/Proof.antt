-- `checking::hash::one_w` meets its contract. The product, the sparse product and the difference, each modulo q. Assumes nothing.
use borrow.Author.Rules.{rules}
use Rattle.checking.proofs.WSteps.{product_asks, sparse_asks, subtract_asks, difference_is}
use Rattle.checking.proofs.hash.one_w.Statement.{statement}
use Rattle.checking.proofs.hash.one_w.Tie as tie

pub one_w_spec : {M : Type 1} → statement M
one_w_spec =
    tie.close
    (tie.spec
    (λ c κs. search (product_asks, rules))
    (λ c κs. search (sparse_asks, rules))
    (λ c κs. search (subtract_asks, rules))
    (λ c. search rules)
    (λ c. search rules)
    (λ c. search (difference_is, rules)))
