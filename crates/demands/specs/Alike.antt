-- Why a receiver rounds as the signer did. The receiver's w_i = a_i z − t_i c are the signer's w_i = v_i − e_i c, modulo q; and
-- the signer's two tests on w_i keep every v_i = w_i + e_i c on the same side of each rounding edge.
-- Assumes nothing.
use Rattle.std.specs.Prelude.{◌≡◌, refl, true, List, ℤ, pos, nat_abs, ◌+ℤ◌, ◌-ℤ◌}
use Rattle.std.proofs.Common.{sym, ap, subst, ◌∙◌, arith, ltb-true}
use Prim.Native.Nat.{ℕ, ◌+◌, ◌-◌, ◌^◌, ◌≤◌, ◌<◌}
use Rattle.whole.specs.Int.{as_difference, differences, difference_same}
use Rattle.whole.specs.Residue.{Same}
use Rattle.whole.specs.ResidueLaws.{residue_eq, same_refl, same_eq, same_sym, same_trans, same_add, same_minus, same_less}
use Rattle.whole.specs.TableLaws.{table_ext, get_or_table}
use Rattle.rounding.specs.Centred.{centred, Central}
use Rattle.rounding.specs.CentredLaws.{centred_central, centred_same}
use Rattle.rounding.specs.Parts.{low, high}
use Rattle.rounding.specs.PartsLaws.{low_eq, high_eq, rounds_alike}
use Rattle.rounding.specs.Tests.{low_passes, size_passes}
use Rattle.ring.specs.Product.{Poly, mul}
use Rattle.ring.specs.ProductLaws.{mul_ext, mul_add, add_mul, mul_assoc, mul_same}
use Rattle.ring.specs.Lists.{naturals, integers, signed_bytes}
use Rattle.ring.specs.ListsLaws.{residues_at}
use Rattle.sampling.specs.Positions.{polynomial_of}
use Rattle.sampling.specs.Streams.{a_of, enc_of}
use Rattle.sets.specs.declared.Numbers.{Numbers}
use Rattle.records.specs.Secret.{e_of}
use Rattle.keys.specs.Key.{key_t}
use Rattle.attempts.specs.Attempt.{v_of, z_from, w_of}
use Rattle.checking.specs.Check.{check_w}

-- ---- a (y + s c) − (a s + e) c is a y − e c

-- the same over any polynomials: t is a s + e modulo q
cancels : (q n : ℕ) (a s e y c t : Poly) (j : ℕ) → j < n
    → ((i : ℕ) → i < n → Same q (t i) (mul n a s i +ℤ e i))
    → Same q (mul n a (λ i. y i +ℤ mul n s c i) j -ℤ mul n t c j) (mul n a y j -ℤ mul n e c j)
cancels q n a s e y c t j h ht =
    same_trans (same_minus (same_eq q (add_mul n a y (mul n s c) j)) (mul_same q n t (λ i. mul n a s i +ℤ e i) c c j h ht (λ i l. same_eq q refl)))
    (same_eq q (ap (λ (x : ℤ). mul n a y j +ℤ mul n a (mul n s c) j -ℤ x) (mul_add n (mul n a s) e c j ∙ ap (λ (x : ℤ). x +ℤ mul n e c j) (mul_assoc n a s c j h)) ∙ left))
  where
    left : mul n a y j +ℤ mul n a (mul n s c) j -ℤ (mul n a (mul n s c) j +ℤ mul n e c j) ≡ mul n a y j -ℤ mul n e c j
    left =
        rw (as_difference (mul n a y j), as_difference (mul n a (mul n s c) j), as_difference (mul n e c j))
        (simp differences (omega (arith, difference_same)))

module _ (set : Numbers) (q_some : 0 < set.q) (s e seed_a : List ℕ) (y : List ℤ) (c' : List ℕ) (i : ℕ) where
  -- the receiver's w_i are the signer's, coefficient by coefficient
  pub same_w : check_w set seed_a (key_t set s e seed_a) (z_from set s y (enc_of set c')) c' i ≡ w_of set e (v_of set seed_a y) (enc_of set c') i
  unfolding check_w w_of key_t z_from v_of
  same_w =
      table_ext n _ _
      (λ j l. residue_eq set.q _ _ q_some
      (same_trans (same_less (same_eq set.q (z_is j l)) (mul n (naturals (key_t set s e seed_a i)) C j))
      (same_trans (cancels set.q n a S E (integers y) C (naturals (key_t set s e seed_a i)) j l t_same)
      (same_less (v_same j l) (mul n E C j)))))
    where
      n : ℕ
      n = set.n

      a : Poly
      a = naturals (a_of set seed_a i)

      S : Poly
      S = signed_bytes s

      C : Poly
      C = polynomial_of (enc_of set c')

      E : Poly
      E = signed_bytes (e_of set e i)

      z_is : (j : ℕ) → j < n → mul n a (integers (z_from set s y (enc_of set c'))) j ≡ mul n a (λ i. integers y i +ℤ mul n S C i) j
      z_is j l =
          mul_ext n a a (integers (z_from set s y (enc_of set c'))) (λ i. integers y i +ℤ mul n S C i) j l (λ i l. refl)
          (λ i l. get_or_table n i (λ j. integers y j +ℤ mul n S C j) (pos 0) l)

      t_same : (l : ℕ) → l < n → Same set.q (naturals (key_t set s e seed_a i) l) (mul n a S l +ℤ E l)
      t_same l h = residues_at set.q n (λ j. mul n a S j +ℤ E j) l q_some h

      v_same : (j : ℕ) → j < n → Same set.q (mul n a (integers y) j) (naturals (v_of set seed_a y i) j)
      v_same j h = same_sym (residues_at set.q n (mul n a (integers y)) j q_some h)

-- ---- what the two tests on w_i leave room for

-- one coefficient: w passes both tests, v is w + x modulo q with |x| at most E
pub alike : (q d E v w : ℕ) (x : ℤ) → 0 < q → low_passes q d E (pos w) ≡ true → size_passes q E (pos w) ≡ true
    → Same q (pos v) (pos w +ℤ x) → nat_abs x ≤ E → high q d (pos w) ≡ high q d (pos v)
unfolding low_passes size_passes
alike q d E v w x h hl hs s hx = same_high ∙ sym (rounds_alike q d E (pos v) c x h central (ltb-true _ _ hs) small_low moved hx)
  where
    c : ℤ
    c = centred q (pos w)

    central : Central q c
    central = centred_central q (pos w) h

    same_low : low q d (pos w) ≡ low q d c
    same_low = low_eq q d (pos w) c h (centred_same q (pos w) h)

    same_high : high q d (pos w) ≡ high q d c
    same_high = high_eq q d (pos w) c h (centred_same q (pos w) h)

    small_low : nat_abs (low q d c) + E < 2 ^ (d - 1)
    small_low = subst (λ (l : ℤ). nat_abs l + E < 2 ^ (d - 1)) same_low (ltb-true _ _ hl)

    moved : Same q (pos v) (c +ℤ x)
    moved = same_trans s (same_add (centred_same q (pos w) h) (same_refl q x))
