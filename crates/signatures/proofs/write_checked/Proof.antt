-- `signatures::write_checked` meets its contract. The bits of each z, then the pieces. Assumes nothing.
use borrow.Author.Rules.{rules}
use Rattle.signatures.proofs.Steps.{z_asked, pieces_asked, record_is}
use Rattle.signatures.proofs.write_checked.Statement.{statement}
use Rattle.signatures.proofs.write_checked.Tie as tie

pub write_checked_spec : {M : Type 1} → statement M
write_checked_spec =
    tie.close
    (tie.spec
    (λ c κs. search (z_asked, rules))
    (λ c κs. search (pieces_asked, rules))
    (λ c. search rules)
    (λ c. search rules)
    (λ c. search (record_is, rules)))
