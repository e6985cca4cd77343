-- `envelope::writing::put_envelope` meets its contract. The pieces stand in the envelope one after the other. Assumes nothing.
use borrow.Author.Rules.{rules}
use Rattle.envelope.proofs.WriteSteps.{put_is}
use Rattle.envelope.proofs.writing.put_envelope.Statement.{statement}
use Rattle.envelope.proofs.writing.put_envelope.Tie as tie

pub put_envelope_spec : {M : Type 1} → statement M
put_envelope_spec =
    tie.close
    (tie.spec
    (λ c κs. search rules)
    (λ c. search rules)
    (λ c κs. search rules)
    (λ c κs. search rules)
    (λ c. search rules)
    (λ c κs. search rules)
    (λ c. search rules)
    (λ c. search (put_is, rules)))
