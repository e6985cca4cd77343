-- Why both tests on w are needed: in set I, with |x| at most E, a w that passes one test and not the other, and whose high part
-- is not that of w + x. The second is ring-TESLA's fault: its signer made the first test alone.
-- Assumes nothing.
use Rattle.std.specs.Prelude.{◌≡◌, refl, Bool, true, false, ◌≤◌, ℤ, pos, neg_ℤ, nat_abs, ◌+ℤ◌}
use Rattle.std.proofs.Common.{lit≤}
use Rattle.whole.specs.Residue.{residue}
use Rattle.rounding.specs.Centred.{centred}
use Rattle.rounding.specs.Parts.{low, high}
use Rattle.rounding.specs.Tests.{low_passes, size_passes}
use Rattle.sets.specs.SetI.{set_i}

-- w with its two tests' results, an x that is small enough, and the two high parts
pub record Apart (w x : ℤ) (low_test sizeTest : Bool) (high_w highWX : ℤ) : Type 0 where
  pub first : low_passes set_i.q set_i.d set_i.e w ≡ low_test
  pub second : size_passes set_i.q set_i.e w ≡ sizeTest
  pub small : nat_abs x ≤ set_i.e
  -- what the receiver computes, from w
  pub receiver : high set_i.q set_i.d w ≡ high_w
  -- what the signer hashed, from v = w + x
  pub signer : high set_i.q set_i.d (w +ℤ x) ≡ highWX

-- at half a step: without the low-part test, 0 and 1
pub without_the_first : Apart (pos 2097152) (pos 1) false true (pos 0) (pos 1)
unfolding low_passes size_passes low high centred residue
without_the_first = record { first = refl; second = refl; small = lit≤ tt; receiver = refl; signer = refl }

-- at floor(q/2): without the test on |w|, 41 and −41
pub without_the_second : Apart (pos 171788288) (pos 1) true false (pos 41) (neg_ℤ (pos 41))
unfolding low_passes size_passes low high centred residue
without_the_second = record { first = refl; second = refl; small = lit≤ tt; receiver = refl; signer = refl }
