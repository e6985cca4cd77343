-- The loop of `keccak::constants::all`. The constants of the rounds before i are there, and the register is that of round i. Assumes
-- nothing.
use Rattle.std.proofs.Common.{◌≡◌, ◌*◌, ◌%◌}
use Rattle.keccak.specs.Constants.{register}
use Rattle.keccak.proofs.Register.{Filled}
use Rattle.keccak.proofs.constants.all.Given as goal

abbrev pub invariant-loop-i : goal.invariant-loop-i
invariant-loop-i l = (l.i % 3 ≡ 0) × Filled l.i l.constants × (l.r ≡ register (7 * l.i))
