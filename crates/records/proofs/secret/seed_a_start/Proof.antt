-- `records::secret::seed_a_start` meets its contract. Assumes nothing.
use native.Mathlib.Omega.{arith}
use borrow.Author.Rules.{rules}
use Rattle.sets.specs.GoodLaws.{n_few, row_few}
use Rattle.records.proofs.secret.seed_a_start.Statement.{statement}
use Rattle.records.proofs.secret.seed_a_start.Tie as tie

pub seed_a_start_spec : {M : Type 1} → statement M
seed_a_start_spec =
    tie.close
    (tie.spec
    (λ c. omega (arith, n_few c.before.requires))
    (λ c. omega (arith, row_few c.before.before.requires))
    (λ c. omega (arith, n_few c.before.before.requires, row_few c.before.before.requires))
    (λ c. search rules))
