-- The goals of `attempts::respond::w_test` that want an answer by hand. Assumes nothing.
use Rattle.attempts.proofs.TestSteps.{w_small, w_low, w_sized, w_both, w_fails}
use Rattle.attempts.proofs.respond.w_test.Goals as goal

pub subtract_small-requires : goal.subtract_small-requires
subtract_small-requires c = w_small c.requires (λ i. (c.type_inv.e i).fits) c.times_bytes.ensures

pub all_low-requires : goal.all_low-requires
all_low-requires c = w_low c.requires (λ i. (c.type_inv.e i).fits) c.times_bytes.ensures c.subtract_small.ensures

pub all_sized-requires : goal.all_sized-requires
all_sized-requires c = w_sized c.requires (λ i. (c.type_inv.e i).fits) c.times_bytes.ensures c.subtract_small.ensures

pub returns-then-all_low : goal.returns-then-all_low
returns-then-all_low c = w_both c.requires (λ i. (c.type_inv.e i).fits) c.times_bytes.ensures c.subtract_small.ensures c.all_low.ensures c.if-all_low.true c.all_sized.ensures

pub returns-else-all_low : goal.returns-else-all_low
returns-else-all_low c = w_fails c.requires (λ i. (c.type_inv.e i).fits) c.times_bytes.ensures c.subtract_small.ensures c.all_low.ensures c.if-all_low.false
