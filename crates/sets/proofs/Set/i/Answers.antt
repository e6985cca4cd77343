-- The goals of `sets::Set::i` that want an answer by hand. Assumes nothing.
use Rattle.sets.specs.Known.{known_i}
use Rattle.sets.specs.SetI.{good_i}
use Rattle.sets.proofs.Set.i.Goals as goal

pub invariant_of-result : goal.invariant_of-result
invariant_of-result c = record { good = good_i c.numbers.ensures; known = known_i c.numbers.ensures }
