-- What the code computes on single numbers is what the definitions say: residues of sums and differences, and signed bytes. Assumes nothing.
use Rattle.std.proofs.Common.{◌≡◌, sym, ap, ◌∙◌, false, ⊎_elim, ℕ, suc, ◌+◌, ◌*◌, ◌-◌, ◌^◌, ◌≤◌, ◌<◌, mul-one, arith, w8, w32, to_z, of_z, SFits, to_z-of_z, ℤ, pos, negsuc, neg_ℤ, nat_abs, ◌+ℤ◌, ◌-ℤ◌}
use Rattle.std.proofs.Math.Facts.{to_z_pos, to_z-neg}
use lib.Signed.{lt_z}
use Rattle.whole.specs.Int.{int, lt_or_le, sum_is, minus_is, up_neg, down_neg, not_negative_is}
use Rattle.whole.specs.Residue.{residue, Same}
use Rattle.whole.specs.ResidueLaws.{residue_is, same_eq}
use Rattle.whole.specs.Twos.{signed}
use Rattle.whole.specs.TwosLaws.{signed_low, signed_high}
use Rattle.ring.specs.Asks.{Taken, Added}

-- ---- a − b modulo q

module _ (q a b : ℕ) (t : Taken q a b) where
  pub minus_low : b ≤ a → a - b ≡ residue q (pos a -ℤ pos b)
  minus_low l = sym (residue_is q (a - b) (pos a -ℤ pos b) (omega (arith, t.residue)) (same_eq q (omega (int, minus_is (pos a) (pos b)))))

  pub minus_high : a < b → a + q - b ≡ residue q (pos a -ℤ pos b)
  minus_high l = sym (residue_is q (a + q - b) (pos a -ℤ pos b) (omega (arith, t.near)) wrapped)
    where
      wrapped : Same q (pos a -ℤ pos b) (pos (a + q - b))
      wrapped =
          record {
            times = negsuc 0;
            is = omega (int, minus_is (pos a) (pos b), sum_is (pos (a + q - b)) (neg_ℤ (pos (q * 1))), up_neg (pos (q * 1)), down_neg (pos (q * 1)), mul-one q, t.near);
          }

-- ---- v + x modulo q, where x is not negative: m is |x| as the code has it

module _ {q v m : ℕ} {x : ℤ} (a : Added q v x) (f : SFits w32 x) (t : lt_z (to_z w32 (of_z w32 x)) (pos 0) ≡ false) (e : m ≡ nat_abs (to_z w32 (of_z w32 x))) where
  sum_of : pos v +ℤ x ≡ pos (v + m)
  sum_of = ap (λ (z : ℤ). pos v +ℤ z) (not_negative_is x (rw (to_z-of_z f) at t) ∙ ap pos (sym (rw (to_z-of_z f) at e)))

  pub plus_low : v + m < q → v + m ≡ residue q (pos v +ℤ x)
  plus_low l = sym (residue_is q (v + m) (pos v +ℤ x) l (same_eq q sum_of))

  pub plus_high : q ≤ v + m → v + m - q ≡ residue q (pos v +ℤ x)
  plus_high l =
      sym (residue_is q (v + m - q) (pos v +ℤ x) (omega (arith, a.near, a.residue, rw (to_z-of_z f) at e)) (record { times = pos 1; is = sum_of ∙ ap pos parts }))
    where
      parts : v + m ≡ v + m - q + q * 1
      parts = omega (arith, l, mul-one q)

-- ---- signed bytes

-- a byte read as a signed one is what it stands for
pub byte_read : (b : ℕ) → b < 2 ^ 8 → to_z w8 b ≡ signed 8 b
byte_read b l = ⊎_elim (λ lt. to_z_pos w8 lt ∙ sym (signed_low 8 b lt)) (λ le. high le ∙ sym (signed_high 8 b le)) (lt_or_le b 128)
  where
    high : 128 ≤ b → to_z w8 b ≡ pos b -ℤ pos 256
    high le = ap (to_z w8) place ∙ to_z-neg w8 (255 - b) (omega arith) ∙ omega (int, minus_is (pos b) (pos 256))
      where
        place : b ≡ 2 ^ 8 - suc (255 - b)
        place = omega arith
