-- The loop of `keccak::constants::of_round`. j turns of the round are made, and the constant has its first j bits. Assumes nothing.
use Rattle.std.proofs.Common.{◌≡◌, ◌+◌, ◌*◌}
use Rattle.keccak.specs.Constants.{register, constant_bits}
use Rattle.keccak.proofs.constants.of_round.Given as goal

abbrev pub invariant-loop-j : goal.invariant-loop-j
invariant-loop-j l = (l.r ≡ register (l.j + 7 * l.i)) × (l.constant ≡ constant_bits l.j l.i)
