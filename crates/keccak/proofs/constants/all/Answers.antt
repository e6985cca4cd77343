-- The goals of `keccak::constants::all` that want an answer by hand. Assumes nothing.
use Rattle.std.proofs.Common.{◌≡◌, ◌+◌, ◌*◌, ap, ◌∙◌, arith}
use Rattle.keccak.specs.Constants.{register}
use Rattle.keccak.proofs.Register.{filled_three}
use Rattle.keccak.proofs.constants.all.Goals as goal

pub loop-i-preserved : goal.loop-i-preserved
loop-i-preserved c =
    let i = c.loop-i.i in
    let next : 7 * (i + 2 + 1) ≡ 7 * (i + 3) = omega arith in (
      omega arith,
      filled_three i (omega arith) c.loop-i.invariant.1 c.of_round.ensures.constant c.of_round-in-loop-i.ensures.constant c.of_round-in-loop-i-2.ensures.constant,
      c.of_round-in-loop-i-2.ensures.register ∙ ap register next,
    )
