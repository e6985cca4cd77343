-- `envelope::head::team_of` meets its contract. Assumes nothing.
use borrow.Author.Rules.{rules}
use Rattle.envelope.specs.Envelope.{team_of}
use Rattle.envelope.proofs.head.team_of.Statement.{statement}
use Rattle.envelope.proofs.head.team_of.Tie as tie

pub team_of_spec : {M : Type 1} → statement M
unfolding team_of
team_of_spec =
    tie.close
    (tie.spec
    (λ c κs. search rules)
    (λ c κs. search rules)
    (λ c κs. search rules)
    (λ c. search rules))
