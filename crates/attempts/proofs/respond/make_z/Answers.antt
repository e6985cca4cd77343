-- The goals of `attempts::respond::make_z` that want an answer by hand. Assumes nothing.
use Rattle.attempts.proofs.TestSteps.{z_summands, z_is}
use Rattle.attempts.proofs.respond.make_z.Goals as goal

pub add_exact-requires : goal.add_exact-requires
add_exact-requires c = z_summands c.requires (λ i. (c.type_inv.s i).fits) c.times_bytes.ensures

pub returns : goal.returns
returns c = z_is c.requires (λ i. (c.type_inv.s i).fits) c.times_bytes.ensures c.add_exact.ensures
