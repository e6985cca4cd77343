-- What the code computes on one number is what two's complement says: the b low bits of z, and x − 2^b for bits from 2^(b − 1) on, taken in
-- an i64, where it fits.
-- Assumes nothing.
use Rattle.std.proofs.Common.{◌≡◌, sym, ap, ap₂, ◌∙◌, ℕ, suc, ◌*◌, ◌%◌, ◌-◌, ◌^◌, ◌≤◌, ◌<◌, ℤ, pos, negsuc, ◌+ℤ◌, ◌-ℤ◌, FitsSigned, w32, w64, to_z, of_z, arith, refl, pow_pos, pow_mono, pow-add, to_z-of_z}
use Rattle.std.specs.Int.Bits.{bit_and}
use Rattle.std.proofs.lemmas.Nat.{and_mask}
use Rattle.std.proofs.Math.Facts.{sfits_widen}
use Rattle.std.proofs.Math.Pow.{pow-lt}
use mir.Facts.{to_z_pos}
use Rattle.whole.specs.Int.{int, sum_is}
use Rattle.whole.specs.Residue.{residue}
use Rattle.whole.specs.ResidueLaws.{residue_eq}
use Rattle.whole.specs.Twos.{InBits, signed, twos}
use Rattle.whole.specs.TwosLaws.{signed_low, signed_high, signed_range}
use Rattle.whole.specs.Words.{one_shifted}

-- ---- the b bits of a number

-- 2^b, as the code makes it
power : (b : ℕ) → b < 32 → 1 * 2 ^ b % 2 ^ 32 ≡ 2 ^ b
power b h = one_shifted 32 b h

-- the b low bits of the word that holds z
low_bits : (b : ℕ) (z : ℤ) → b < 32 → FitsSigned w32 z → of_z w32 z % 2 ^ b ≡ twos b z
unfolding residue
low_bits b (pos a) h f = refl
low_bits b (negsuc a) h f = residue_eq (2 ^ b) (pos (2 ^ 32 - suc a)) (negsuc a) (pow_pos b) (record { times = pos (2 ^ (32 - b)); is = below })
  where
    whole : 2 ^ 32 ≡ 2 ^ b * 2 ^ (32 - b)
    whole = ap (λ k. 2 ^ k) {x = 32} (omega arith) ∙ pow-add 2 b (32 - b)

    below : pos (2 ^ 32 - suc a) ≡ negsuc a +ℤ pos (2 ^ b * 2 ^ (32 - b))
    below = omega (int, sum_is (negsuc a) (pos (2 ^ b * 2 ^ (32 - b))), whole, f.sfits)

pub bits_are : {b y : ℕ} {z : ℤ} → b < 32 → FitsSigned w32 z → y ≡ of_z w32 (to_z w32 (of_z w32 z)) → bit_and y (1 * 2 ^ b % 2 ^ 32 - 1) ≡ twos b z
bits_are {b} {y} {z} h f e = rw (power b h, and_mask, e, to_z-of_z f) (low_bits b z h f)

-- ---- what b bits stand for

module _ {b x : ℕ} (w : (0 < b) × (b < 32)) (p : x < 2 ^ b) where
  -- 2^(b − 1), the sign's place, as the code makes it
  sign : 1 * 2 ^ (b - 1) % 2 ^ 32 ≡ 2 ^ (b - 1)
  sign = one_shifted 32 (b - 1) (omega arith)

  half : 2 ^ (b - 1) ≤ 2 ^ 31
  half = pow_mono {i = b - 1} {j = 31} (omega arith)

  signed_fits : FitsSigned w32 (signed b x)
  signed_fits = go (signed b x) (signed_range b x w.0 p)
    where
      go : (y : ℤ) → InBits b y → FitsSigned w32 y
      go (pos a) s = record { sfits = omega (arith, s.below, half) }
      go (negsuc a) s = record { sfits = omega (arith, s.above, half) }

  -- bits with the sign: 2^b goes off them
  pub lowered : {y : ℤ} → y ≡ pos x → 1 * 2 ^ (b - 1) % 2 ^ 32 ≤ x
      → to_z w32 (of_z w32 (to_z w64 (of_z w64 (to_z w64 (of_z w64 y) -ℤ to_z w64 (1 * 2 ^ b % 2 ^ 64))))) ≡ signed b x
  lowered e t = rw (e, is, to_z-of_z (sfits_widen {w = w32} tt signed_fits)) (to_z-of_z signed_fits)
    where
      is : to_z w64 x -ℤ to_z w64 (1 * 2 ^ b % 2 ^ 64) ≡ signed b x
      is =
          let m : 2 ^ b ≤ 2 ^ 32 = pow_mono {i = b} {j = 32} (omega arith) in
          ap₂ ◌-ℤ◌ (to_z_pos w64 {n = x} (omega arith)) (ap (to_z w64) (one_shifted 64 b (omega arith)) ∙ to_z_pos w64 (pow-lt {i = b} {j = 63} (omega arith)))
          ∙ sym (signed_high b x (omega (arith, sign)))

  -- any others stay
  pub positive : x < 1 * 2 ^ (b - 1) % 2 ^ 32 → to_z w32 x ≡ signed b x
  positive t = to_z_pos w32 {n = x} (omega (arith, sign, half)) ∙ sym (signed_low b x (omega (arith, sign)))
