-- Laws of the low and the high part: what they make together, how large they are, and when two numbers have the same high part, the
-- rounding theorem. Assumes nothing.
use Rattle.std.specs.Prelude.{◌≡◌, refl, ◌⊎◌, ℕ, zero, suc, ◌+◌, ◌*◌, ◌-◌, ◌/◌, ◌^◌, ◌≤◌, ◌<◌, ℤ, pos, negsuc, neg_ℤ, nat_abs, ◌+ℤ◌, ◌-ℤ◌, ◌*ℤ◌}
use Rattle.std.proofs.Common.{sym, ap, ap₂, subst, ◌∙◌, inl, inr, le-div_iff_mul-le, mul_comm, arith, lit<, pow_pos}
use Rattle.std.proofs.Math.Nat.{zero-div, mul-div_cancel_left, pow-succ'}
use Rattle.std.specs.Int.Signed.{quot_z}
use Rattle.whole.specs.Int.{up, down, int, sum_is, minus_is, up_neg, down_neg, abs_is, abs_product, abs_sum, one_part, less_one}
use Rattle.whole.specs.Residue.{Same}
use Rattle.whole.specs.ResidueLaws.{same_more}
use Rattle.rounding.specs.Centred.{centred, Central}
use Rattle.rounding.specs.CentredLaws.{centred_central, centred_same, centred_is, centred_self, centred_eq, central_abs}
use Rattle.rounding.specs.Parts.{low, high}

-- congruent numbers have the same parts
pub low_eq : (q d : ℕ) (a b : ℤ) → 0 < q → Same q a b → low q d a ≡ low q d b
unfolding low
low_eq q d a b h s = ap (centred (2 ^ d)) (centred_eq q a b h s)

pub high_eq : (q d : ℕ) (a b : ℤ) → 0 < q → Same q a b → high q d a ≡ high q d b
unfolding high
high_eq q d a b h s = ap₂ (λ (c l : ℤ). quot_z (c -ℤ l) (pos (2 ^ d))) (centred_eq q a b h s) (low_eq q d a b h s)

-- ---- v's centred remainder is 2^d · high + low

over_neg : (m a : ℕ) → quot_z (neg_ℤ (pos a)) (pos m) ≡ neg_ℤ (pos (a / m))
over_neg m zero = rw (zero-div m)
over_neg m (suc a) = refl

over : (m : ℕ) (t : ℤ) → 0 < m → quot_z (pos m *ℤ t) (pos m) ≡ t
over m (pos t) h = ap pos (mul-div_cancel_left t h)
over m (negsuc t) h = over_neg m (m * suc t) ∙ ap (λ (k : ℕ). neg_ℤ (pos k)) (mul-div_cancel_left (suc t) h)

-- a number c that is central by q, and its parts: whatever splits c with a low part that is central by 2^d
pub low_is : (q d : ℕ) (v c h l : ℤ) → Central q c → Same q v c → c ≡ l +ℤ pos (2 ^ d) *ℤ h → Central (2 ^ d) l → low q d v ≡ l
unfolding low
low_is q d v c h l cc s e cl =
    ap (centred (2 ^ d)) (centred_is q v c cc s ∙ e) ∙ centred_is (2 ^ d) (l +ℤ pos (2 ^ d) *ℤ h) l cl (same_more (2 ^ d) l h)

pub high_is : (q d : ℕ) (v c h l : ℤ) → Central q c → Same q v c → c ≡ l +ℤ pos (2 ^ d) *ℤ h → Central (2 ^ d) l → high q d v ≡ h
unfolding high
high_is q d v c h l cc s e cl =
    ap (λ (t : ℤ). quot_z t (pos (2 ^ d))) (rest) ∙ over (2 ^ d) h (pow_pos d)
  where
    rest : centred q v -ℤ low q d v ≡ pos (2 ^ d) *ℤ h
    rest =
        rw (centred_is q v c cc s, low_is q d v c h l cc s e cl)
        (omega (int, e, minus_is c l, sum_is l (pos (2 ^ d) *ℤ h)))

pub parts : (q d : ℕ) (v : ℤ) → 0 < q → centred q v ≡ low q d v +ℤ pos (2 ^ d) *ℤ high q d v
parts q d v h = split ∙ ap (λ (t : ℤ). low q d v +ℤ pos (2 ^ d) *ℤ t) (sym high_times)
  where
    c : ℤ
    c = centred q v

    s : Same (2 ^ d) c (centred (2 ^ d) c)
    s = centred_same (2 ^ d) c (pow_pos d)

    low_here : low q d v ≡ centred (2 ^ d) c
    low_here = low_is q d v c s.times (centred (2 ^ d) c) (centred_central q v h) (centred_same q v h) s.is (centred_central (2 ^ d) c (pow_pos d))

    high_times : high q d v ≡ s.times
    high_times = high_is q d v c s.times (centred (2 ^ d) c) (centred_central q v h) (centred_same q v h) s.is (centred_central (2 ^ d) c (pow_pos d))

    split : c ≡ low q d v +ℤ pos (2 ^ d) *ℤ s.times
    split = s.is ∙ ap (λ (t : ℤ). t +ℤ pos (2 ^ d) *ℤ s.times) (sym low_here)

-- ---- how large the parts are

pub low_central : (q d : ℕ) (v : ℤ) → Central (2 ^ d) (low q d v)
unfolding low
low_central q d v = centred_central (2 ^ d) (centred q v) (pow_pos d)

-- the high part is at most (floor(q/2) + 2^d / 2) / 2^d, rounded down
pub high_bound : (q d : ℕ) (v : ℤ) → 0 < q → nat_abs (high q d v) ≤ (q / 2 + 2 ^ d / 2) / 2 ^ d
high_bound q d v h = (le-div_iff_mul-le (pow_pos d)).1 (rw (mul_comm (nat_abs (high q d v)) (2 ^ d)) scaled)
  where
    c : ℤ
    c = centred q v

    l : ℤ
    l = low q d v

    product : ℤ
    product = pos (2 ^ d) *ℤ high q d v

    is_difference : product ≡ c +ℤ neg_ℤ l
    is_difference = omega (int, parts q d v h, sum_is l product, sum_is c (neg_ℤ l), up_neg l, down_neg l)

    near : nat_abs product ≤ q / 2 + 2 ^ d / 2
    near =
        rw is_difference
        (omega (arith, abs_sum c (neg_ℤ l), abs_is l, abs_is (neg_ℤ l), up_neg l, down_neg l, central_abs q c (centred_central q v h), central_abs (2 ^ d) l (low_central q d v)))

    scaled : 2 ^ d * nat_abs (high q d v) ≤ q / 2 + 2 ^ d / 2
    scaled = omega (arith, near, abs_product (pos (2 ^ d)) (high q d v))

-- ---- the rounding theorem

-- within E of w, nothing crosses the edge of a modulus m that w itself keeps E away from
stays : (m E : ℕ) (w x : ℤ) → nat_abs w + E < m / 2 → nat_abs x ≤ E → Central m (w +ℤ x)
stays m E w x h k = go (one_part (w +ℤ x))
  where
    go : (up (w +ℤ x) ≡ 0) ⊎ (down (w +ℤ x) ≡ 0) → Central m (w +ℤ x)
    go (inl e) = record { most = omega arith; least = omega (arith, sum_is w x, abs_is w, abs_is x) }
    go (inr e) = record { most = omega (arith, sum_is w x, abs_is w, abs_is x); least = omega (arith, sum_is w x, abs_is w, abs_is x) }

stays_low : (d E : ℕ) (l x : ℤ) → nat_abs l + E < 2 ^ (d - 1) → nat_abs x ≤ E → Central (2 ^ d) (l +ℤ x)
stays_low zero E l x h k =
    record {
      most = omega (arith, sum_is l x, abs_is l, abs_is x, abs_sum l x, abs_is (l +ℤ x));
      least = omega (arith, sum_is l x, abs_is l, abs_is x, abs_sum l x, abs_is (l +ℤ x));
    }
stays_low (suc d) E l x h k = stays (2 ^ suc d) E l x (subst (λ (n : ℕ). nat_abs l + E < n) halves h) k
  where
    halves : 2 ^ (suc d - 1) ≡ 2 ^ suc d / 2
    halves = ap (λ (n : ℕ). 2 ^ n) (less_one d) ∙ sym (rw (pow-succ' 2 d) (mul-div_cancel_left (2 ^ d) (lit< tt)))

-- If w is centred by q, |w| is below floor(q/2) − E and its |low part| below 2^(d−1) − E, then every v that is congruent to
-- w + x with |x| at most E has w's high part: what the signer rounds, the receiver rounds alike.
-- The two bounds are written with E on the left, so that no difference is cut off at 0.
pub rounds_alike : (q d E : ℕ) (v w x : ℤ) → 0 < q → Central q w → nat_abs w + E < q / 2 → nat_abs (low q d w) + E < 2 ^ (d - 1) → Same q v (w +ℤ x) → nat_abs x ≤ E → high q d v ≡ high q d w
rounds_alike q d E v w x hq cw near near_low s hx =
    high_is q d v (w +ℤ x) (high q d w) (l +ℤ x) (stays q E w x near hx) s moved (stays_low d E l x near_low hx)
  where
    l : ℤ
    l = low q d w

    product : ℤ
    product = pos (2 ^ d) *ℤ high q d w

    whole : w ≡ l +ℤ product
    whole = sym (centred_self q w cw) ∙ parts q d w hq

    moved : w +ℤ x ≡ (l +ℤ x) +ℤ product
    moved = omega (int, whole, sum_is w x, sum_is l product, sum_is l x, sum_is (l +ℤ x) product)
