-- `keccak::theta` meets its contract: what it returns computes to `theta` of its lanes. Assumes nothing.
use Rattle.std.proofs.Common.{refl}
use Rattle.keccak.specs.Steps.{theta}
use Rattle.keccak.proofs.theta.Goals as goal

pub returns : goal.returns
unfolding theta
returns c = rw (c.rotate_left.ensures, c.rotate_left-2.ensures, c.rotate_left-3.ensures, c.rotate_left-4.ensures, c.rotate_left-5.ensures) refl
