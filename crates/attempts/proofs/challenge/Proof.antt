-- `attempts::challenge` meets its contract. Assumes nothing.
use borrow.Author.Rules.{rules}
use Rattle.attempts.proofs.AttemptSteps.{challenged}
use Rattle.attempts.proofs.challenge.Statement.{statement}
use Rattle.attempts.proofs.challenge.Tie as tie

pub challenge_spec : {M : Type 1} → statement M
challenge_spec =
    tie.close
    (tie.spec
    (λ c κs. search rules)
    (λ c κs. search rules)
    (λ c. search rules)
    (λ c. search rules)
    (λ c. search rules)
    (λ c κs. search rules)
    (λ c. search (challenged, rules)))
