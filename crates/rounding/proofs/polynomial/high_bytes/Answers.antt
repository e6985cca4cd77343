-- The goals of `rounding::polynomial::high_bytes` that want an answer by hand: the byte and the test are those of the high part. Assumes nothing.
use Rattle.std.proofs.Common.{arith}
use Rattle.std.proofs.lemmas.Grind.{common_steps}
use Rattle.rounding.proofs.Bytes.{low_byte, fits_is}
use Rattle.rounding.proofs.Items.{every_is}
use Rattle.rounding.proofs.polynomial.high_bytes.Goals as goal

pub loop-k-preserved : goal.loop-k-preserved
loop-k-preserved c =
    let h = c.high_of-h in
    let e = low_byte h.result h.type_inv in
    let f = fits_is h.result h.type_inv _ c.try_from.ensures in
    (grind (arith, common_steps), grind (arith, common_steps))

pub returns-clause-value : goal.returns-clause-value
returns-clause-value c = grind (arith, common_steps, every_is)
