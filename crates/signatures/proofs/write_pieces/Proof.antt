-- `signatures::write_pieces` meets its contract: the mark, packed z and c' stand in the record one after the other.
-- Assumes nothing.
use borrow.Author.Rules.{rules}
use Rattle.signatures.proofs.Steps.{mark_stands, pack_asked, z_stands, all_stands}
use Rattle.signatures.proofs.write_pieces.Statement.{statement}
use Rattle.signatures.proofs.write_pieces.Tie as tie

pub write_pieces_spec : {M : Type 1} → statement M
write_pieces_spec =
    tie.close
    (tie.spec
    (λ c κs. search rules)
    (λ c. search rules)
    (λ c κs. search rules)
    (λ c. search rules)
    (λ c. search rules)
    (λ c. search rules)
    (λ c κs. search (mark_stands, pack_asked, rules))
    (λ c κs. search rules)
    (λ c. search rules)
    (λ c. search (mark_stands, z_stands, all_stands, rules)))
