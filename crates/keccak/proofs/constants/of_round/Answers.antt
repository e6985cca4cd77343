-- The goals of `keccak::constants::of_round` that want an answer by hand. Assumes nothing.
use Rattle.std.proofs.Common.{◌≡◌, ap, ◌∙◌, arith}
use Rattle.keccak.specs.Constants.{constant_bits, round_constant}
use Rattle.keccak.proofs.Register.{small_place, turned, bit_more}
use Rattle.keccak.proofs.constants.of_round.Goals as goal

pub overflow_shl-constant : goal.overflow_shl-constant
overflow_shl-constant c = omega (arith, small_place c.loop-j.j (omega arith))

pub loop-j-preserved : goal.loop-j-preserved
loop-j-preserved c =
    let l = c.loop-j in
    (turned _ l.j l.invariant.0 c.turn.ensures, bit_more _ l.j (omega arith) (omega arith) (omega (arith, small_place l.j (omega arith))) l.invariant.0 l.invariant.1)

pub returns-clause-constant : goal.returns-clause-constant
unfolding round_constant
returns-clause-constant c = let all : c.loop-j.j ≡ 7 = omega arith in c.loop-j.invariant.1 ∙ ap (λ m. constant_bits m c.args.i) all
