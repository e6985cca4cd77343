-- The goal of `packing::low` that wants an answer by hand: the mask has b bits. Assumes nothing.
use Rattle.std.proofs.Common.{arith}
use Rattle.std.proofs.lemmas.Nat.{and_mask}
use Rattle.whole.specs.Words.{one_shifted}
use Rattle.packing.proofs.low.Goals as goal

pub returns : goal.returns
returns c = rw (one_shifted 64 c.args.b (omega arith)) (and_mask c.args.acc c.args.b)
