-- The goal of `sampling::less_stretch` that wants an answer by hand: what is kept of a value is the value less b. Assumes nothing.
use borrow.Author.Rules.{rules}
use Rattle.sampling.specs.Values.{less_of}
use Rattle.sampling.proofs.less_stretch.Goals as goal

pub returns : goal.returns
returns c = c.keep_values.ensures (less_of c.args.b) (λ v x h e. search rules)
