-- The goal of `sampling::values_stretch` that wants an answer by hand: each value is kept as it is. Assumes nothing.
use borrow.Author.Rules.{rules}
use Rattle.std.proofs.lemmas.List.{map-id}
use Rattle.sampling.proofs.values_stretch.Goals as goal

pub returns : goal.returns
returns c = rw map-id at (c.keep_values.ensures (λ v. v) (λ v x h e. search rules))
