-- The laws of ℤ that the kit lacks. Every whole number z is `up z` less `down z`, two naturals of which one is 0.
-- What the operations, the equation and the orders of ℤ are in those parts is stated here, so that `omega`, which reads
-- naturals alone, proves linear facts of ℤ: `omega (int, sum_is a b, minus_is c d)`, a listed fact for each compound term.
-- For identities of sums and products `difference a b` is a − b for naturals, and `differences` multiplies it out.
-- Assumes nothing.
use Rattle.std.specs.Prelude.{◌≡◌, refl, ℕ, zero, suc, ◌+◌, ◌*◌, ◌-◌, ◌≤◌, ◌<◌, Bool, true, false, cond, not, ◌⊎◌, T, ltb, ℤ, pos, negsuc, neg_ℤ, nat_abs, ◌+ℤ◌, ◌-ℤ◌, ◌*ℤ◌, ◌≤ℤ◌, ◌<ℤ◌}
use Rattle.std.proofs.Common.{sym, ap, ap₂, subst, true≢false, inl, inr, ⊎_elim, arith, le_refl, ltb→lt, lt→ltb, leb→le, le→leb, nltb→le, ltb-true}
use Rattle.std.proofs.Math.Decide.{dec_lt}
use Rattle.std.proofs.Math.IntN.{sub_ℕ}
use Rattle.std.specs.Int.Signed.{lt_z, mag}

-- ---- naturals

pub lt_or_le : (a b : ℕ) → (a < b) ⊎ (b ≤ a)
lt_or_le a b = go (dec_lt a b)
  where
    go : Dec (a < b) → (a < b) ⊎ (b ≤ a)
    go (yes h) = inl h
    go (no h) = inr (omega (arith, h))

pub less_one : (k : ℕ) → suc k - 1 ≡ k
less_one k = omega arith

-- ---- the parts of a whole number

abbrev pub up : ℤ → ℕ
up (pos n) = n
up (negsuc n) = 0

abbrev pub down : ℤ → ℕ
down (pos n) = 0
down (negsuc n) = suc n

-- ---- the equation and the orders, both ways

pub eq_to : (a b : ℤ) → a ≡ b → up a + down b ≡ up b + down a
eq_to a b e = ap₂ ◌+◌ (ap up e) (ap down (sym e))

pub eq_from : (a b : ℤ) → up a + down b ≡ up b + down a → a ≡ b
eq_from (pos a) (pos b) h = ap pos (omega arith)
eq_from (pos a) (negsuc b) h = absurd (omega arith)
eq_from (negsuc a) (pos b) h = absurd (omega arith)
eq_from (negsuc a) (negsuc b) h = ap negsuc (omega arith)

pub le_to : (a b : ℤ) → a ≤ℤ b → up a + down b ≤ up b + down a
le_to (pos a) (pos b) h = let l = leb→le a b h.le in omega arith
le_to (pos a) (negsuc b) h = absurd h.le
le_to (negsuc a) (pos b) h = omega arith
le_to (negsuc a) (negsuc b) h = let l = leb→le b a h.le in omega arith

pub le_from : (a b : ℤ) → up a + down b ≤ up b + down a → a ≤ℤ b
le_from (pos a) (pos b) h = record { le = le→leb a b (omega arith) }
le_from (pos a) (negsuc b) h = absurd (omega arith)
le_from (negsuc a) (pos b) h = record { le = tt }
le_from (negsuc a) (negsuc b) h = record { le = le→leb b a (omega arith) }

pub lt_to : (a b : ℤ) → a <ℤ b → up a + down b < up b + down a
lt_to (pos a) (pos b) h = let l = ltb→lt a b h.lt in omega arith
lt_to (pos a) (negsuc b) h = absurd h.lt
lt_to (negsuc a) (pos b) h = omega arith
lt_to (negsuc a) (negsuc b) h = let l = ltb→lt b a h.lt in omega arith

pub lt_from : (a b : ℤ) → up a + down b < up b + down a → a <ℤ b
lt_from (pos a) (pos b) h = record { lt = lt→ltb a b (omega arith) }
lt_from (pos a) (negsuc b) h = absurd (omega arith)
lt_from (negsuc a) (pos b) h = record { lt = tt }
lt_from (negsuc a) (negsuc b) h = record { lt = lt→ltb b a (omega arith) }

pub ruleset int = (arith, eq_to, eq_from, le_to, le_from, lt_to, lt_from)

-- ---- the operations

-- `a` less `b`, for naturals. Shut, so that sums and products of it are rewritten by the laws below and by nothing else
pub difference : ℕ → ℕ → ℤ
difference a b = sub_ℕ a b

sub_parts : (a b : ℕ) (t : Bool) → ltb a b ≡ t → up (cond t (negsuc (b - suc a)) (pos (a - b))) + b ≡ a + down (cond t (negsuc (b - suc a)) (pos (a - b)))
sub_parts a b true e = let l = ltb→lt a b (subst T (sym e) tt) in omega arith
sub_parts a b false e = let l = nltb→le a b (subst (λ (s : Bool). T (not s)) (sym e) tt) in omega arith

pub difference_is : (a b : ℕ) → up (difference a b) + b ≡ a + down (difference a b)
unfolding difference
difference_is a b = sub_parts a b (ltb a b) refl

pub sum_is : (a b : ℤ) → up (a +ℤ b) + (down a + down b) ≡ up a + up b + down (a +ℤ b)
unfolding difference
sum_is (pos a) (pos b) = omega arith
sum_is (pos a) (negsuc b) = omega (arith, difference_is a (suc b))
sum_is (negsuc a) (pos b) = omega (arith, difference_is b (suc a))
sum_is (negsuc a) (negsuc b) = omega arith

pub up_neg : (a : ℤ) → up (neg_ℤ a) ≡ down a
up_neg (pos zero) = refl
up_neg (pos (suc a)) = refl
up_neg (negsuc a) = refl

pub down_neg : (a : ℤ) → down (neg_ℤ a) ≡ up a
down_neg (pos zero) = refl
down_neg (pos (suc a)) = refl
down_neg (negsuc a) = refl

pub minus_is : (a b : ℤ) → up (a -ℤ b) + (down a + up b) ≡ up a + down b + down (a -ℤ b)
minus_is a b = omega (arith, sum_is a (neg_ℤ b), up_neg b, down_neg b)

pub product_is : (a b : ℤ) → up (a *ℤ b) + (up a * down b + down a * up b) ≡ up a * up b + down a * down b + down (a *ℤ b)
product_is (pos a) (pos b) = omega arith
product_is (pos a) (negsuc b) = omega (arith, up_neg (pos (a * suc b)), down_neg (pos (a * suc b)))
product_is (negsuc a) (pos b) = omega (arith, up_neg (pos (suc a * b)), down_neg (pos (suc a * b)))
product_is (negsuc a) (negsuc b) = omega arith

pub abs_is : (a : ℤ) → nat_abs a ≡ up a + down a
abs_is (pos a) = omega arith
abs_is (negsuc a) = omega arith

-- one of the two parts is 0
pub one_part : (a : ℤ) → (up a ≡ 0) ⊎ (down a ≡ 0)
one_part (pos a) = inr refl
one_part (negsuc a) = inl refl

-- ---- differences, for identities

pub as_difference : (a : ℤ) → a ≡ difference (up a) (down a)
as_difference a = omega (int, difference_is (up a) (down a))

pub difference_same : (a b c d : ℕ) → a + d ≡ c + b → difference a b ≡ difference c d
difference_same a b c d h = omega (int, difference_is a b, difference_is c d)

pub difference_add : (a b c d : ℕ) → difference a b +ℤ difference c d ≡ difference (a + c) (b + d)
difference_add a b c d =
    omega (int, sum_is (difference a b) (difference c d), difference_is a b, difference_is c d, difference_is (a + c) (b + d))

pub difference_neg : (a b : ℕ) → neg_ℤ (difference a b) ≡ difference b a
difference_neg a b = omega (int, up_neg (difference a b), down_neg (difference a b), difference_is a b, difference_is b a)

pub difference_mul : (a b c d : ℕ) → difference a b *ℤ difference c d ≡ difference (a * c + b * d) (a * d + b * c)
difference_mul a b c d = omega (int, product_is x y, difference_is (a * c + b * d) (a * d + b * c), by_up_y, by_down_y, by_a, by_b)
  where
    x : ℤ
    x = difference a b

    y : ℤ
    y = difference c d

    by_up_y : (up x + b) * up y ≡ (a + down x) * up y
    by_up_y = ap (λ (t : ℕ). t * up y) (difference_is a b)

    by_down_y : (up x + b) * down y ≡ (a + down x) * down y
    by_down_y = ap (λ (t : ℕ). t * down y) (difference_is a b)

    by_a : a * (up y + d) ≡ a * (c + down y)
    by_a = ap (λ (t : ℕ). a * t) (difference_is c d)

    by_b : b * (up y + d) ≡ b * (c + down y)
    by_b = ap (λ (t : ℕ). b * t) (difference_is c d)

pub ruleset differences = (difference_add, difference_neg, difference_mul)

-- ---- the ring's laws

pub *ℤ-assoc : (a b c : ℤ) → (a *ℤ b) *ℤ c ≡ a *ℤ (b *ℤ c)
*ℤ-assoc a b c = rw (as_difference a, as_difference b, as_difference c) (simp differences (omega (arith, difference_same)))

pub *ℤ-+ℤ : (a b c : ℤ) → a *ℤ (b +ℤ c) ≡ a *ℤ b +ℤ a *ℤ c
*ℤ-+ℤ a b c = rw (as_difference a, as_difference b, as_difference c) (simp differences (omega (arith, difference_same)))

pub +ℤ-*ℤ : (a b c : ℤ) → (a +ℤ b) *ℤ c ≡ a *ℤ c +ℤ b *ℤ c
+ℤ-*ℤ a b c = rw (as_difference a, as_difference b, as_difference c) (simp differences (omega (arith, difference_same)))

pub *ℤ-neg : (a b : ℤ) → a *ℤ neg_ℤ b ≡ neg_ℤ (a *ℤ b)
*ℤ-neg a b = rw (as_difference a, as_difference b) (simp differences (omega (arith, difference_same)))

pub neg-*ℤ : (a b : ℤ) → neg_ℤ a *ℤ b ≡ neg_ℤ (a *ℤ b)
neg-*ℤ a b = rw (as_difference a, as_difference b) (simp differences (omega (arith, difference_same)))

-- ---- absolute values

pub abs_neg : (a : ℤ) → nat_abs (neg_ℤ a) ≡ nat_abs a
abs_neg a = omega (arith, abs_is a, abs_is (neg_ℤ a), up_neg a, down_neg a)

pub abs_sum : (a b : ℤ) → nat_abs (a +ℤ b) ≤ nat_abs a + nat_abs b
abs_sum a b =
    ⊎_elim (λ e. omega (arith, abs_is a, abs_is b, abs_is (a +ℤ b), sum_is a b)) (λ e. omega (arith, abs_is a, abs_is b, abs_is (a +ℤ b), sum_is a b))
    (one_part (a +ℤ b))

pub abs_product : (a b : ℤ) → nat_abs (a *ℤ b) ≡ nat_abs a * nat_abs b
abs_product (pos a) (pos b) = refl
abs_product (pos a) (negsuc b) = abs_neg (pos (a * suc b))
abs_product (negsuc a) (pos b) = abs_neg (pos (suc a * b))
abs_product (negsuc a) (negsuc b) = refl

-- by the sign: as the code tests it
pub negative_is : (x : ℤ) → lt_z x (pos 0) ≡ true → x ≡ neg_ℤ (pos (nat_abs x))
negative_is (pos n) e = absurd (omega (arith, ltb-true n 0 e))
negative_is (negsuc n) e = refl

pub not_negative_is : (x : ℤ) → lt_z x (pos 0) ≡ false → x ≡ pos (nat_abs x)
not_negative_is (pos n) e = refl
not_negative_is (negsuc n) e = absurd (true≢false e)

-- a number and its negation fit where the absolute value does
pub mag_le : (z : ℤ) → mag z ≤ nat_abs z
mag_le (pos n) = le_refl n
mag_le (negsuc n) = omega arith

-- |a| is at most n exactly if a is from −n to n
pub abs_le_to : (a : ℤ) (n : ℕ) → nat_abs a ≤ n → (up a ≤ n) × (down a ≤ n)
abs_le_to a n h = (omega (arith, abs_is a), omega (arith, abs_is a))

pub abs_le_from : (a : ℤ) (n : ℕ) → up a ≤ n + down a → down a ≤ n + up a → nat_abs a ≤ n
abs_le_from a n h k = ⊎_elim (λ e. omega (arith, abs_is a)) (λ e. omega (arith, abs_is a)) (one_part a)
