-- Laws of finite sums. Assumes nothing.
use Rattle.std.specs.Prelude.{◌≡◌, refl, ℕ, zero, suc, ◌+◌, ◌-◌, ◌≤◌, ◌<◌, ℤ, pos, neg_ℤ, nat_abs, ◌+ℤ◌, ◌*ℤ◌}
use Rattle.std.proofs.Common.{sym, ap, ap₂, ◌∙◌, add-zero, add-suc, le_refl, arith}
use Rattle.std.proofs.Math.IntN.{*ℤ-zero, *ℤ_comm, +ℤ_idr, +ℤ_idl}
use Rattle.whole.specs.Int.{up, *ℤ-+ℤ, abs_sum, as_difference, differences, difference_same}
use Rattle.whole.specs.Residue.{Same}
use Rattle.whole.specs.ResidueLaws.{same_refl, same_add}
use Rattle.whole.specs.Sum.{sum, total}

pub sum_ext : (n : ℕ) (f g : ℕ → ℤ) → ((i : ℕ) → i < n → f i ≡ g i) → sum n f ≡ sum n g
unfolding sum
sum_ext zero f g h = refl
sum_ext (suc n) f g h = ap₂ ◌+ℤ◌ (sum_ext n f g (λ i l. h i (omega arith))) (h n (le_refl (suc n)))

pub sum_add : (n : ℕ) (f g : ℕ → ℤ) → sum n (λ i. f i +ℤ g i) ≡ sum n f +ℤ sum n g
unfolding sum
sum_add zero f g = refl
sum_add (suc n) f g =
    rw (sum_add n f g, as_difference (sum n f), as_difference (sum n g), as_difference (f n), as_difference (g n)) (simp differences (omega (arith, difference_same)))

pub sum_scale : (n : ℕ) (c : ℤ) (f : ℕ → ℤ) → sum n (λ i. c *ℤ f i) ≡ c *ℤ sum n f
unfolding sum
sum_scale zero c f = sym (*ℤ-zero c)
sum_scale (suc n) c f = rw (sum_scale n c f, *ℤ-+ℤ c (sum n f) (f n))

pub sum_times : (n : ℕ) (f : ℕ → ℤ) (c : ℤ) → sum n (λ i. f i *ℤ c) ≡ sum n f *ℤ c
sum_times n f c =
    sum_ext n (λ i. f i *ℤ c) (λ i. c *ℤ f i) (λ i l. *ℤ_comm (f i) c) ∙ sum_scale n c f ∙ *ℤ_comm c (sum n f)

pub sum_neg : (n : ℕ) (f : ℕ → ℤ) → sum n (λ i. neg_ℤ (f i)) ≡ neg_ℤ (sum n f)
unfolding sum
sum_neg zero f = refl
sum_neg (suc n) f = rw (sum_neg n f, as_difference (sum n f), as_difference (f n)) (simp differences (omega (arith, difference_same)))

pub sum_zero : (n : ℕ) → sum n (λ i. pos 0) ≡ pos 0
unfolding sum
sum_zero zero = refl
sum_zero (suc n) = rw (sum_zero n)

pub sum_swap : (n m : ℕ) (f : ℕ → ℕ → ℤ) → sum n (λ i. sum m (λ j. f i j)) ≡ sum m (λ j. sum n (λ i. f i j))
unfolding sum
sum_swap zero m f = sym (sum_zero m)
sum_swap (suc n) m f =
    ap (λ (t : ℤ). t +ℤ sum m (λ j. f n j)) (sum_swap n m f) ∙ sym (sum_add m (λ j. sum n (λ i. f i j)) (λ j. f n j))

pub sum_split : (a b : ℕ) (f : ℕ → ℤ) → sum (a + b) f ≡ sum a f +ℤ sum b (λ i. f (a + i))
unfolding sum
sum_split a zero f = rw (add-zero a) (sym (+ℤ_idr (sum a f)))
sum_split a (suc b) f =
    rw (add-suc a b, sum_split a b f, as_difference (sum a f), as_difference (sum b (λ i. f (a + i))), as_difference (f (a + b))) (simp differences (omega (arith, difference_same)))

pub sum_first : (n : ℕ) (f : ℕ → ℤ) → sum (suc n) f ≡ f 0 +ℤ sum n (λ i. f (suc i))
unfolding sum
sum_first zero f = rw (+ℤ_idl (f 0)) (sym (+ℤ_idr (f 0)))
sum_first (suc n) f =
    rw (sum_first n f, as_difference (f 0), as_difference (sum n (λ i. f (suc i))), as_difference (f (suc n))) (simp differences (omega (arith, difference_same)))

-- the same numbers from the last to the first
pub sum_reverse : (n : ℕ) (f : ℕ → ℤ) → sum n (λ i. f (n - suc i)) ≡ sum n f
unfolding sum
sum_reverse zero f = refl
sum_reverse (suc n) f =
    sum_first n (λ i. f (suc n - suc i))
    ∙ ap₂ ◌+ℤ◌ (ap f first) (sum_ext n (λ i. f (suc n - suc (suc i))) (λ i. f (n - suc i)) (λ i l. ap f (omega arith)) ∙ sum_reverse n f)
    ∙ rw (as_difference (f n), as_difference (sum n f)) (simp differences (omega (arith, difference_same)))
  where
    first : suc n - suc 0 ≡ n
    first = omega arith

pub sum_same : (q n : ℕ) (f g : ℕ → ℤ) → ((i : ℕ) → i < n → Same q (f i) (g i)) → Same q (sum n f) (sum n g)
unfolding sum
sum_same q zero f g h = same_refl q (pos 0)
sum_same q (suc n) f g h = same_add (sum_same q n f g (λ i l. h i (omega arith))) (h n (le_refl (suc n)))

-- ---- over the naturals

pub sum_total : (n : ℕ) (f : ℕ → ℕ) → sum n (λ i. pos (f i)) ≡ pos (total n f)
unfolding sum total
sum_total zero f = refl
sum_total (suc n) f = rw (sum_total n f)

pub total_ext : (n : ℕ) (f g : ℕ → ℕ) → ((i : ℕ) → i < n → f i ≡ g i) → total n f ≡ total n g
total_ext n f g h =
    ap up (sym (sum_total n f) ∙ sum_ext n (λ i. pos (f i)) (λ i. pos (g i)) (λ i l. ap pos (h i l)) ∙ sum_total n g)

pub total_split : (a b : ℕ) (f : ℕ → ℕ) → total (a + b) f ≡ total a f + total b (λ i. f (a + i))
unfolding total
total_split a zero f = rw (add-zero a) (sym (add-zero (total a f)))
total_split a (suc b) f = rw (add-suc a b, total_split a b f) (omega arith)

pub total_reverse : (n : ℕ) (f : ℕ → ℕ) → total n (λ i. f (n - suc i)) ≡ total n f
total_reverse n f = ap up (sym (sum_total n (λ i. f (n - suc i))) ∙ sum_reverse n (λ i. pos (f i)) ∙ sum_total n f)

pub total_add : (n : ℕ) (f g : ℕ → ℕ) → total n (λ i. f i + g i) ≡ total n f + total n g
unfolding total
total_add zero f g = refl
total_add (suc n) f g = rw (total_add n f g) (omega arith)

pub total_zero : (n : ℕ) → total n (λ i. 0) ≡ 0
unfolding total
total_zero zero = refl
total_zero (suc n) = rw (total_zero n)

pub total_le : (n : ℕ) (f g : ℕ → ℕ) → ((i : ℕ) → i < n → f i ≤ g i) → total n f ≤ total n g
unfolding total
total_le zero f g h = le_refl 0
total_le (suc n) f g h = omega (arith, total_le n f g (λ i l. h i (omega arith)), h n (le_refl (suc n)))

-- the absolute value of a sum is at most the sum of the absolute values
pub sum_abs : (n : ℕ) (f : ℕ → ℤ) → nat_abs (sum n f) ≤ total n (λ i. nat_abs (f i))
unfolding sum total
sum_abs zero f = le_refl 0
sum_abs (suc n) f = omega (arith, abs_sum (sum n f) (f n), sum_abs n f)
