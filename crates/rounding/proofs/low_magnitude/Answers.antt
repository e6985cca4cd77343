-- The goals of `rounding::low_magnitude` that want an answer by hand. Assumes nothing.
use borrow.Author.Rules.{rules}
use Rattle.rounding.proofs.Laws.{low_near, low_far}
use Rattle.rounding.proofs.low_magnitude.Goals as goal

pub returns-then-rest-half : goal.returns-then-rest-half
returns-then-rest-half c = search (low_near, rules)

pub returns-else-rest-half : goal.returns-else-rest-half
returns-else-rest-half c = search (low_far, rules)
