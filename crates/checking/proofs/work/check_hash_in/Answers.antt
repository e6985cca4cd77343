-- `checking::work::check_hash_in` meets its contract. z modulo q, the high parts and g, then the last two tests. Assumes nothing.
use borrow.Author.Rules.{rules}
use Rattle.sets.specs.Known.{known_good}
use Rattle.checking.proofs.WorkSteps.{highs_asks, work_answered}
use Rattle.checking.proofs.work.check_hash_in.Goals as goal

pub signature_bytes-from-requires : goal.signature_bytes-from-requires
signature_bytes-from-requires c = search (known_good, rules)

pub highs_of-highs-requires : goal.highs_of-highs-requires
highs_of-highs-requires c = search (highs_asks, rules)

pub public_g-requires : goal.public_g-requires
public_g-requires c = search (known_good, rules)

pub judge-requires : goal.judge-requires
judge-requires c = search (known_good, rules)

pub returns : goal.returns
returns c = search (work_answered, rules)
