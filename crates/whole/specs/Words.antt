-- A number in a machine word, as the code reads it.
--     wide, read_wide          a signed number that goes into a wider word keeps its value
--     wide_i32, read_i64       the same from an i32 to an i64
--     one_shifted              2^i, as the code makes it
-- Assumes nothing.
use Rattle.std.specs.Prelude.{◌≡◌, ℕ, ◌*◌, ◌%◌, ◌^◌, ◌<◌, T, leb, ℤ}
use Rattle.std.proofs.Common.{◌∙◌, one-mul, arith, shl_exact, to_z-of_z}
use Rattle.std.specs.Int.{Width, w32, w64}
use mir.Val.{hbits, SFits, to_z, of_z}
use Rattle.std.proofs.Math.Facts.{sfits_widen}

module _ (w w' : Width) {z : ℤ} (wider : T (leb (hbits w) (hbits w'))) (f : SFits w z) where
  pub wide : SFits w' (to_z w (of_z w z))
  wide = rw (to_z-of_z f) (sfits_widen wider f)

  pub read_wide : to_z w' (of_z w' (to_z w (of_z w z))) ≡ z
  read_wide = to_z-of_z wide ∙ to_z-of_z f

module _ {z : ℤ} (f : SFits w32 z) where
  pub wide_i32 : SFits w64 (to_z w32 (of_z w32 z))
  wide_i32 = wide w32 w64 tt f

  pub read_i64 : to_z w64 (of_z w64 (to_z w32 (of_z w32 z))) ≡ z
  read_i64 = read_wide w32 w64 tt f

pub one_shifted : (w i : ℕ) → i < w → (1 * 2 ^ i) % 2 ^ w ≡ 2 ^ i
one_shifted w i h = shl_exact {a = 1} 1 i w (omega arith) (omega arith) ∙ one-mul (2 ^ i)
