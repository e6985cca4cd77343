-- A number's byte in two's complement, and whether it fits one, as the library's conversions give them.
-- Assumes nothing.
use Rattle.std.proofs.Common.{◌≡◌, ◌%◌, ◌^◌, ◌<◌, refl, ℤ, pos, negsuc, FitsSigned, w8, w32, to_z, of_z, Result, Decides, arith, lt-ltb, ltb-true, to_z-of_z}
use Rattle.std.specs.Int.Signed.{mag}
use Rattle.std.specs.Result.{OkIff, is_ok}
use Rattle.std.proofs.lemmas.Bool.Decides.{same_from_decides}
use Rattle.std.proofs.lemmas.Result.{OkIff-decides}
use borrow.Author.Rules.{sfits_of}
use Rattle.whole.specs.Residue.{residue}
use Rattle.whole.specs.Twos.{twos}
use Rattle.rounding.specs.Tests.{fits_byte}

fits_byte_decides : (z : ℤ) → Decides (fits_byte z) (FitsSigned w8 z)
fits_byte_decides (pos a) = (λ e. record { sfits = ltb-true a 128 e }, λ f. lt-ltb a 128 f.sfits)
fits_byte_decides (negsuc a) = (λ e. record { sfits = ltb-true a 128 e }, λ f. lt-ltb a 128 f.sfits)

module _ (z : ℤ) (f : mag z < 2 ^ 31) where
  as_read : to_z w32 (of_z w32 z) ≡ z
  as_read = to_z-of_z {w = w32} (sfits_of f)

  -- the lowest byte of the word that holds z
  pub low_byte : of_z w32 (to_z w32 (of_z w32 z)) % 256 ≡ twos 8 z
  unfolding residue
  low_byte = rw as_read (go z f)
    where
      go : (y : ℤ) → mag y < 2 ^ 31 → of_z w32 y % 256 ≡ twos 8 y
      go (pos a) l = refl
      go (negsuc a) l = omega arith

  pub fits_is : {E : Type 0} (r : Result ℤ E) → OkIff r (FitsSigned w8 (to_z w32 (of_z w32 z))) (to_z w32 (of_z w32 z)) → is_ok r ≡ fits_byte z
  fits_is r h = same_from_decides _ _ (OkIff-decides r _ z (rw as_read at h)) (fits_byte_decides z)
