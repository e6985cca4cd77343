-- `signatures::unpack_bits` meets its contract. Assumes nothing.
use borrow.Author.Rules.{rules}
use Rattle.signatures.proofs.Steps.{bits_unpack, bits_are}
use Rattle.signatures.proofs.unpack_bits.Statement.{statement}
use Rattle.signatures.proofs.unpack_bits.Tie as tie

pub unpack_bits_spec : {M : Type 1} → statement M
unpack_bits_spec =
    tie.close
    (tie.spec
    (λ c κs. search rules)
    (λ c. search rules)
    (λ c. search rules)
    (λ c. search rules)
    (λ c. search rules)
    (λ c κs. search (bits_unpack, rules))
    (λ c. search rules)
    (λ c. search (bits_are, rules)))
