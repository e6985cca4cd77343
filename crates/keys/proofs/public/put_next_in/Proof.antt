-- `keys::public::put_next_in` meets its contract. The next t, packed. Assumes nothing.
use borrow.Author.Rules.{rules}
use Rattle.keys.proofs.PutSteps.{pack_asks, puts_one}
use Rattle.keys.proofs.public.put_next_in.Statement.{statement}
use Rattle.keys.proofs.public.put_next_in.Tie as tie

pub put_next_in_spec : {M : Type 1} → statement M
put_next_in_spec =
    tie.close
    (tie.spec
    (λ c κs. search rules)
    (λ c κs. search (pack_asks, rules))
    (λ c. search rules)
    (λ c. search rules)
    (λ c. search rules)
    (λ c. search rules)
    (λ c. search (puts_one, rules)))
