-- The centred remainder is the only number of its range that is congruent: `centred_is`. Assumes nothing.
use Rattle.std.specs.Prelude.{◌≡◌, ◌⊎◌, ℕ, zero, suc, ◌*◌, ◌/◌, ◌%◌, ◌≤◌, ◌<◌, ℤ, pos, negsuc, neg_ℤ, nat_abs, ◌+ℤ◌, ◌-ℤ◌, ◌*ℤ◌}
use Rattle.std.proofs.Common.{inl, inr, ⊎_elim, arith, le-leb}
use Rattle.std.proofs.lemmas.Bool.{lt-leb}
use Rattle.whole.specs.Int.{up, down, int, sum_is, minus_is, up_neg, down_neg, abs_is, one_part, lt_or_le}
use Rattle.whole.specs.Residue.{residue, Same}
use Rattle.whole.specs.ResidueLaws.{residue_lt, residue_same, same_refl, same_sym, same_trans, same_back}
use Rattle.rounding.specs.Centred.{centred, Central}

-- ---- the range in document 01's words

pub central_abs : (m : ℕ) (z : ℤ) → Central m z → nat_abs z ≤ m / 2
central_abs m z c = ⊎_elim (λ e. omega (arith, abs_is z, c.most, c.least)) (λ e. omega (arith, abs_is z, c.most, c.least)) (one_part z)

pub central_odd : (m : ℕ) (z : ℤ) → m % 2 ≡ 1 → nat_abs z ≤ m / 2 → Central m z
central_odd m z o h = record { most = omega (arith, abs_is z); least = omega (arith, abs_is z) }

pub central_even : (m : ℕ) (z : ℤ) → up z ≤ m / 2 → down z < m / 2 → Central m z
central_even m z h k = record { most = omega arith; least = omega arith }

-- ---- the centred remainder is central and congruent, and no other number is

below : (m r : ℕ) → r < m → m / 2 < r → (up (pos r -ℤ pos m) ≡ 0) ⊎ (down (pos r -ℤ pos m) ≡ 0) → Central m (pos r -ℤ pos m)
below m r l k (inl e) = record { most = omega arith; least = omega (arith, minus_is (pos r) (pos m)) }
below m r l k (inr e) = absurd (omega (arith, minus_is (pos r) (pos m)))

pub centred_central : (m : ℕ) (z : ℤ) → 0 < m → Central m (centred m z)
unfolding centred
centred_central m z h =
    ⊎_elim
    (λ gt. rw (lt-leb (residue m z) (m / 2) gt) (below m (residue m z) (residue_lt m z h) gt (one_part (pos (residue m z) -ℤ pos m))))
    (λ le. rw (le-leb (residue m z) (m / 2) le) (record { most = omega arith; least = h }))
    (lt_or_le (m / 2) (residue m z))

pub centred_same : (m : ℕ) (z : ℤ) → 0 < m → Same m z (centred m z)
unfolding centred
centred_same m z h =
    ⊎_elim (λ gt. rw (lt-leb (residue m z) (m / 2) gt) (same_trans (residue_same m z h) (same_sym (same_back m (pos (residue m z))))))
    (λ le. rw (le-leb (residue m z) (m / 2) le) (residue_same m z h)) (lt_or_le (m / 2) (residue m z))

unique : (m : ℕ) (x y t : ℤ) → Central m x → Central m y → x ≡ y +ℤ pos m *ℤ t → x ≡ y
unique m x y (pos zero) c d e = omega (int, sum_is y (pos (m * 0)))
unique m x y (pos (suc t)) c d e = absurd (omega (int, sum_is y (pos (m * suc t)), c.most, d.least))
unique m x y (negsuc t) c d e =
    absurd (omega (int, sum_is y (neg_ℤ (pos (m * suc t))), up_neg (pos (m * suc t)), down_neg (pos (m * suc t)), c.least, d.most))

pub central_unique : (m : ℕ) (x y : ℤ) → Central m x → Central m y → Same m x y → x ≡ y
central_unique m x y c d s = unique m x y s.times c d s.is

-- the centred remainder is the one number of the range that is congruent to z
pub centred_is : (m : ℕ) (z x : ℤ) → Central m x → Same m z x → centred m z ≡ x
centred_is m z x c s =
    central_unique m (centred m z) x (centred_central m z above) c (same_trans (same_sym (centred_same m z above)) s)
  where
    above : 0 < m
    above = omega (arith, c.least)

pub centred_self : (m : ℕ) (z : ℤ) → Central m z → centred m z ≡ z
centred_self m z c = centred_is m z z c (same_refl m z)

-- congruent numbers have one centred remainder
pub centred_eq : (m : ℕ) (a b : ℤ) → 0 < m → Same m a b → centred m a ≡ centred m b
centred_eq m a b h s = centred_is m a (centred m b) (centred_central m b h) (same_trans s (centred_same m b h))
