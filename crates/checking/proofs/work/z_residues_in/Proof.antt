-- `checking::work::z_residues_in` meets its contract. z as the record has it, then modulo q. Assumes nothing.
use borrow.Author.Rules.{rules}
use Rattle.checking.proofs.WorkSteps.{small_z, z_is}
use Rattle.checking.proofs.work.z_residues_in.Statement.{statement}
use Rattle.checking.proofs.work.z_residues_in.Tie as tie

pub z_residues_in_spec : {M : Type 1} → statement M
z_residues_in_spec =
    tie.close
    (tie.spec
    (λ c κs. search rules)
    (λ c κs. search (small_z, rules))
    (λ c. search rules)
    (λ c. search rules)
    (λ c. search (z_is, rules)))
