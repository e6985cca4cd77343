-- The goal of `packing::above` that wants an answer by hand: no bit of v is shifted out. Assumes nothing.
use Rattle.std.proofs.Common.{arith, shl_exact}
use Rattle.packing.proofs.above.Goals as goal

pub returns : goal.returns
returns c = rw (c.from.ensures, shl_exact {a = c.args.v} 32 c.args.have 64 c.ranges.v.fits (omega arith)) (omega arith)
