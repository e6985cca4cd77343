-- The goals of `ring::largest::largest_sum` that want an answer by hand. Assumes nothing.
use Rattle.std.proofs.Common.{rules, ◌<◌, ◌^◌, sum}
use Rattle.whole.specs.BelowLaws.{below_bytes}
use Rattle.ring.proofs.Places.{added_is, places_fit}
use Rattle.ring.proofs.largest.largest_sum.Goals as goal

pub sum-requires-clause-fits : goal.sum-requires-clause-fits
sum-requires-clause-fits c =
    let s : sum c.pick.new.slots < 2 ^ 32 = rw c.pick.ensures (places_fit c.requires (below_bytes c.args.e.now (λ i. (c.type_inv.e i).fits))) in
    search rules

pub returns-clause-value : goal.returns-clause-value
returns-clause-value c = let e = added_is c.pick.new.slots in search rules
