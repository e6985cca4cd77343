-- `keys::public::next_t` meets its contract. The next a, and its t. Assumes nothing.
use borrow.Author.Rules.{rules}
use Rattle.keys.proofs.PutSteps.{t_asks, one_more}
use Rattle.keys.proofs.public.next_t.Statement.{statement}
use Rattle.keys.proofs.public.next_t.Tie as tie

pub next_t_spec : {M : Type 1} → statement M
next_t_spec =
    tie.close
    (tie.spec
    (λ c κs. search rules)
    (λ c κs. search (t_asks, rules))
    (λ c. search rules)
    (λ c. search rules)
    (λ c. search rules)
    (λ c. search (one_more, rules)))
