-- `records::secret::e_start` meets its contract. Assumes nothing.
use native.Mathlib.Omega.{arith}
use borrow.Author.Rules.{rules}
use Rattle.sets.specs.GoodLaws.{n_few}
use Rattle.records.proofs.secret.e_start.Statement.{statement}
use Rattle.records.proofs.secret.e_start.Tie as tie

pub e_start_spec : {M : Type 1} → statement M
e_start_spec =
    tie.close
    (tie.spec
    (λ c. omega (arith, n_few c.before.requires))
    (λ c. search rules))
