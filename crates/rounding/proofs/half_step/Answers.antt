-- The goal of `rounding::half_step` that wants an answer by hand. Assumes nothing.
use Rattle.std.proofs.Common.{◌≡◌, ◌-◌, ◌^◌, ◌%◌, ◌*◌, arith}
use Rattle.whole.specs.Words.{one_shifted}
use Rattle.rounding.proofs.Laws.{half_small}
use Rattle.rounding.proofs.half_step.Goals as goal

pub returns : goal.returns
returns c =
    let small = half_small c.args.d c.requires.0 c.requires.1 in
    let is : 1 * 2 ^ (c.args.d - 1) % 2 ^ 32 ≡ 2 ^ (c.args.d - 1) = one_shifted 32 (c.args.d - 1) (omega arith) in
    record { is = is; some = rw is small.0; small = rw is small.1 }
