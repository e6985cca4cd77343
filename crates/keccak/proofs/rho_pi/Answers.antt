-- `keccak::rho_pi` meets its contract: what it returns computes to the lanes that rho turns and pi puts elsewhere. Assumes nothing.
use Rattle.std.proofs.Common.{refl}
use Rattle.keccak.specs.Steps.{rho, pi}
use Rattle.keccak.specs.Offsets.{offset, offsets}
use Rattle.keccak.proofs.rho_pi.Goals as goal

pub returns : goal.returns
unfolding rho pi offset offsets
returns c = rw (c.rotate_left.ensures, c.rotate_left-2.ensures, c.rotate_left-3.ensures, c.rotate_left-4.ensures, c.rotate_left-5.ensures, c.rotate_left-6.ensures, c.rotate_left-7.ensures, c.rotate_left-8.ensures, c.rotate_left-9.ensures, c.rotate_left-10.ensures, c.rotate_left-11.ensures, c.rotate_left-12.ensures, c.rotate_left-13.ensures, c.rotate_left-14.ensures, c.rotate_left-15.ensures, c.rotate_left-16.ensures, c.rotate_left-17.ensures, c.rotate_left-18.ensures, c.rotate_left-19.ensures, c.rotate_left-20.ensures, c.rotate_left-21.ensures, c.rotate_left-22.ensures, c.rotate_left-23.ensures, c.rotate_left-24.ensures) refl
