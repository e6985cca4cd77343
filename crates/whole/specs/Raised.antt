-- The residue of a signed value, as the code makes it: a multiple m of the modulus goes on the value in a wider type, where the sum
-- fits and is not negative, and the remainder is taken.
-- Assumes nothing.
use Rattle.std.specs.Prelude.{◌≡◌, ℕ, suc, ◌+◌, ◌-◌, ◌%◌, ◌^◌, ◌≤◌, ◌<◌, ◌*◌, T, leb, ℤ, negsuc, ◌+ℤ◌}
use Rattle.std.proofs.Math.Path.{sym, ap, subst⁻¹, ap₂}
use Rattle.std.proofs.Common.{◌∙◌, arith, to_z-of_z}
use Rattle.std.proofs.Math.IntN.{pos, nat_abs}
use Rattle.std.specs.Int.Signed.{non_neg}
use Rattle.std.specs.Int.{Width}
use mir.Val.{hbits, bits, Fits, SFits, to_z, of_z}
use Rattle.whole.specs.Int.{int, sum_is}
use Rattle.whole.specs.Residue.{residue}
use Rattle.whole.specs.ResidueLaws.{residue_eq}
use Rattle.whole.specs.Words.{read_wide}

-- z + m, where it is not negative
unfoldable raised : ℕ → ℤ → ℕ
raised m (pos a) = a + m
raised m (negsuc a) = m - suc a

-- of a value of width w in width w'
pub record Raises (w w' : Width) (m : ℕ) : Type 0 where
  pub wider : T (leb (hbits w) (hbits w'))
  pub over : 2 ^ hbits w ≤ m
  pub room : m + 2 ^ hbits w ≤ 2 ^ hbits w'

module _ {w w' : Width} {m : ℕ} {z : ℤ} (r : Raises w w' m) (f : SFits w z) where
  sum : to_z w' (of_z w' (to_z w (of_z w z))) +ℤ pos m ≡ pos (raised m z)
  unfolding raised
  sum = ap (λ (x : ℤ). x +ℤ pos m) (read_wide w w' r.wider f) ∙ go z f
    where
      go : (y : ℤ) → SFits w y → y +ℤ pos m ≡ pos (raised m y)
      go (pos a) s = omega (int, sum_is (pos a) (pos m))
      go (negsuc a) s = omega (int, sum_is (negsuc a) (pos m), s.sfits, r.over)

  small : raised m z < m + 2 ^ hbits w
  unfolding raised
  small = go z f
    where
      go : (y : ℤ) → SFits w y → raised m y < m + 2 ^ hbits w
      go (pos a) s = omega (arith, s.sfits)
      go (negsuc a) s = omega (arith, s.sfits)

  pub sum_fits : SFits w' (to_z w' (of_z w' (to_z w (of_z w z))) +ℤ pos m)
  sum_fits = subst⁻¹ (SFits w') sum (record { sfits = omega (arith, small, r.room) })

  -- the sum, as it is read back
  back : to_z w' (of_z w' (to_z w' (of_z w' (to_z w (of_z w z))) +ℤ pos m)) ≡ pos (raised m z)
  back = to_z-of_z sum_fits ∙ sum

  pub sum_cast : (v : Width) → m + 2 ^ hbits w ≤ 2 ^ bits v
      → T (non_neg (to_z w' (of_z w' (to_z w' (of_z w' (to_z w (of_z w z))) +ℤ pos m))))
      × Fits v (nat_abs (to_z w' (of_z w' (to_z w' (of_z w' (to_z w (of_z w z))) +ℤ pos m))))
  sum_cast v h = rw back (tt, record { fits = omega (arith, small) })

  -- m is t times the modulus
  pub sum_residue : (modulus t : ℕ) → 0 < modulus → m ≡ modulus * t
      → nat_abs (to_z w' (of_z w' (to_z w' (of_z w' (to_z w (of_z w z))) +ℤ pos m))) % modulus ≡ residue modulus z
  unfolding residue
  sum_residue modulus t h e =
      ap (λ (x : ℤ). nat_abs x % modulus) back
      ∙ residue_eq modulus (pos (raised m z)) z h
      (record { times = pos t; is = sym sum ∙ ap₂ (λ (x : ℤ) (k : ℕ). x +ℤ pos k) (read_wide w w' r.wider f) e })
