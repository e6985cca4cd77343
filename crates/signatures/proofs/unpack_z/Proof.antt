-- `signatures::unpack_z` meets its contract. The bits of each z, then what they stand for. Assumes nothing.
use borrow.Author.Rules.{rules}
use Rattle.signatures.proofs.Steps.{bits_asked, z_are}
use Rattle.signatures.proofs.unpack_z.Statement.{statement}
use Rattle.signatures.proofs.unpack_z.Tie as tie

pub unpack_z_spec : {M : Type 1} → statement M
unpack_z_spec =
    tie.close
    (tie.spec
    (λ c κs. search rules)
    (λ c κs. search (bits_asked, rules))
    (λ c. search rules)
    (λ c. search rules)
    (λ c. search (z_are, rules)))
