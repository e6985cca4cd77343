-- Laws of residues and of congruence. Assumes nothing.
use Rattle.std.specs.Prelude.{◌≡◌, refl, ℕ, zero, suc, ◌+◌, ◌*◌, ◌-◌, ◌/◌, ◌%◌, ◌<◌, ℤ, pos, negsuc, neg_ℤ, ◌+ℤ◌, ◌-ℤ◌, ◌*ℤ◌}
use Rattle.std.proofs.Common.{sym, ap, subst, ◌∙◌, mod-lt, mod-eq_of_lt, mul-one, arith}
use Rattle.std.proofs.Math.Nat.{mod-add-div}
use Rattle.std.proofs.Math.IntN.{*ℤ-zero, +ℤ_idr}
use Rattle.whole.specs.Int.{up, int, sum_is, up_neg, down_neg, as_difference, differences, difference_same}
use Rattle.whole.specs.Residue.{residue, Same}

-- ---- congruence

pub same_eq : (q : ℕ) {a b : ℤ} → a ≡ b → Same q a b
same_eq q {a} {b} e = record { times = pos 0; is = e ∙ rw (*ℤ-zero (pos q), +ℤ_idr) }

pub same_refl : (q : ℕ) (a : ℤ) → Same q a a
same_refl q a = same_eq q refl

pub same_sym : {q : ℕ} {a b : ℤ} → Same q a b → Same q b a
same_sym {q} {a} {b} s =
    record {
      times = neg_ℤ s.times;
      is = rw (s.is, as_difference b, as_difference (pos q), as_difference s.times) (simp differences (omega (arith, difference_same)));
    }

pub same_trans : {q : ℕ} {a b c : ℤ} → Same q a b → Same q b c → Same q a c
same_trans {q} {a} {b} {c} s t =
    record {
      times = s.times +ℤ t.times;
      is = s.is ∙ ap (λ (x : ℤ). x +ℤ pos q *ℤ s.times) t.is ∙ rw (as_difference c, as_difference (pos q), as_difference s.times, as_difference t.times) (simp differences (omega (arith, difference_same)));
    }

pub same_add : {q : ℕ} {a b c d : ℤ} → Same q a b → Same q c d → Same q (a +ℤ c) (b +ℤ d)
same_add {q} {a} {b} {c} {d} s t =
    record {
      times = s.times +ℤ t.times;
      is = rw (s.is, t.is, as_difference b, as_difference d, as_difference (pos q), as_difference s.times, as_difference t.times) (simp differences (omega (arith, difference_same)));
    }

pub same_neg : {q : ℕ} {a b : ℤ} → Same q a b → Same q (neg_ℤ a) (neg_ℤ b)
same_neg {q} {a} {b} s =
    record {
      times = neg_ℤ s.times;
      is = rw (s.is, as_difference b, as_difference (pos q), as_difference s.times) (simp differences (omega (arith, difference_same)));
    }

pub same_minus : {q : ℕ} {a b c d : ℤ} → Same q a b → Same q c d → Same q (a -ℤ c) (b -ℤ d)
same_minus s t = same_add s (same_neg t)

-- the same number taken away on both sides
pub same_less : {q : ℕ} {a b : ℤ} → Same q a b → (c : ℤ) → Same q (a -ℤ c) (b -ℤ c)
same_less {q} s c = same_minus {c = c} {d = c} s (same_refl q c)

pub same_mul : {q : ℕ} {a b c d : ℤ} → Same q a b → Same q c d → Same q (a *ℤ c) (b *ℤ d)
same_mul {q} {a} {b} {c} {d} s t =
    record {
      times = b *ℤ t.times +ℤ s.times *ℤ c;
      is = times_is;
    }
  where
    times_is : a *ℤ c ≡ b *ℤ d +ℤ pos q *ℤ (b *ℤ t.times +ℤ s.times *ℤ c)
    times_is = ap (λ (x : ℤ). x *ℤ c) s.is ∙ half ∙ ap (λ (x : ℤ). b *ℤ x +ℤ pos q *ℤ (s.times *ℤ c)) t.is ∙ other
      where
        half : (b +ℤ pos q *ℤ s.times) *ℤ c ≡ b *ℤ c +ℤ pos q *ℤ (s.times *ℤ c)
        half = rw (as_difference b, as_difference c, as_difference (pos q), as_difference s.times) (simp differences (omega (arith, difference_same)))

        other : b *ℤ (d +ℤ pos q *ℤ t.times) +ℤ pos q *ℤ (s.times *ℤ c) ≡ b *ℤ d +ℤ pos q *ℤ (b *ℤ t.times +ℤ s.times *ℤ c)
        other = rw (as_difference b, as_difference c, as_difference d, as_difference (pos q), as_difference s.times, as_difference t.times) (simp differences (omega (arith, difference_same)))

-- a multiple of q more or less is congruent
pub same_more : (q : ℕ) (a t : ℤ) → Same q (a +ℤ pos q *ℤ t) a
same_more q a t = record { times = t; is = refl }

-- q less
pub same_back : (q : ℕ) (a : ℤ) → Same q (a -ℤ pos q) a
same_back q a = record { times = negsuc 0; is = ap (λ (t : ℕ). a +ℤ neg_ℤ (pos t)) (sym (mul-one q)) }

-- ---- residues

pub residue_lt : (m : ℕ) (z : ℤ) → 0 < m → residue m z < m
unfolding residue
residue_lt m (pos a) h = mod-lt a h
residue_lt m (negsuc a) h = omega arith

pub residue_same : (m : ℕ) (z : ℤ) → 0 < m → Same m z (pos (residue m z))
unfolding residue
residue_same m (pos a) h = record { times = pos (a / m); is = ap pos (sym (mod-add-div a m)) }
residue_same m (negsuc a) h = record { times = negsuc (a / m); is = below }
  where
    below : negsuc a ≡ pos (m - suc (a % m)) +ℤ neg_ℤ (pos (m * suc (a / m)))
    below =
        omega (int, sum_is (pos (m - suc (a % m))) (neg_ℤ (pos (m * suc (a / m)))), up_neg (pos (m * suc (a / m))), down_neg (pos (m * suc (a / m))), mod-add-div a m, mod-lt a h)

unique : (m x y : ℕ) (t : ℤ) → x < m → y < m → pos x ≡ pos y +ℤ pos m *ℤ t → x ≡ y
unique m x y (pos zero) h k e = omega (arith, eq_up)
  where
    eq_up : x ≡ y + m * 0
    eq_up = ap up e
unique m x y (pos (suc t)) h k e = absurd (omega (arith, eq_up))
  where
    eq_up : x ≡ y + m * suc t
    eq_up = ap up e
unique m x y (negsuc t) h k e =
    absurd (omega (int, sum_is (pos y) (neg_ℤ (pos (m * suc t))), up_neg (pos (m * suc t)), down_neg (pos (m * suc t))))

-- two numbers from 0 to m − 1 that are congruent are equal
pub residue_unique : (m x y : ℕ) → x < m → y < m → Same m (pos x) (pos y) → x ≡ y
residue_unique m x y h k s = unique m x y s.times h k s.is

pub residue_is : (m x : ℕ) (z : ℤ) → x < m → Same m z (pos x) → residue m z ≡ x
residue_is m x z h s = residue_unique m (residue m z) x (residue_lt m z pos_m) h (same_trans (same_sym (residue_same m z pos_m)) s)
  where
    pos_m : 0 < m
    pos_m = omega arith

pub residue_eq : (m : ℕ) (a b : ℤ) → 0 < m → Same m a b → residue m a ≡ residue m b
residue_eq m a b h s = residue_is m (residue m b) a (residue_lt m b h) (same_trans s (residue_same m b h))

pub residue_eq_same : (m : ℕ) (a b : ℤ) → 0 < m → residue m a ≡ residue m b → Same m a b
residue_eq_same m a b h e =
    same_trans (residue_same m a h) (subst (λ (x : ℕ). Same m (pos x) b) (sym e) (same_sym (residue_same m b h)))

pub residue_small : (m a : ℕ) → a < m → residue m (pos a) ≡ a
unfolding residue
residue_small m a h = mod-eq_of_lt h
