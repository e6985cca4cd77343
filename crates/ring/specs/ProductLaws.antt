-- Laws of the product with xⁿ = −1, each of the coefficients below n. Assumes nothing.
use Rattle.std.specs.Prelude.{◌≡◌, refl, Bool, true, false, cond, ℕ, zero, suc, ◌+◌, ◌-◌, ◌≤◌, ◌<◌, leb, ℤ, neg_ℤ, ◌+ℤ◌, ◌-ℤ◌, ◌*ℤ◌}
use Rattle.std.proofs.Common.{sym, ap, ap₂, ◌∙◌, ⊎_elim, arith, le-leb}
use Rattle.std.proofs.Math.IntN.{*ℤ_comm, +ℤ_comm}
use Rattle.std.proofs.lemmas.Bool.{lt-leb}
use Rattle.whole.specs.Int.{lt_or_le, *ℤ-assoc, *ℤ-+ℤ, +ℤ-*ℤ, *ℤ-neg, neg-*ℤ, as_difference, differences, difference_same}
use Rattle.whole.specs.Residue.{Same}
use Rattle.whole.specs.ResidueLaws.{same_neg, same_mul}
use Rattle.whole.specs.Sum.{sum}
use Rattle.whole.specs.SumLaws.{sum_ext, sum_add, sum_scale, sum_times, sum_neg, sum_swap, sum_split, sum_first, sum_reverse, sum_same}
use Rattle.ring.specs.Product.{Poly, turn, mul}

-- ---- a turn

pub turn_low : (n i : ℕ) (g : Poly) (k : ℕ) → i ≤ k → turn n i g k ≡ g (k - i)
unfolding turn
turn_low n i g k h = rw (le-leb i k h)

pub turn_high : (n i : ℕ) (g : Poly) (k : ℕ) → k < i → turn n i g k ≡ neg_ℤ (g (n + k - i))
unfolding turn
turn_high n i g k h = rw (lt-leb i k h)

-- a turn reads coefficients below n alone
pub turn_ext : (n i : ℕ) (f g : Poly) (k : ℕ) → k < n → ((j : ℕ) → j < n → f j ≡ g j) → turn n i f k ≡ turn n i g k
turn_ext n i f g k hk h =
    ⊎_elim (λ l. turn_high n i f k l ∙ ap neg_ℤ (h (n + k - i) (omega arith)) ∙ sym (turn_high n i g k l))
    (λ l. turn_low n i f k l ∙ h (k - i) (omega arith) ∙ sym (turn_low n i g k l)) (lt_or_le k i)

-- a turn by i + 1 is a turn by 1 of a turn by i
pub turn_step : (n i : ℕ) (g : Poly) (k : ℕ) → i < n → k < n → turn n (suc i) g k ≡ turn n 1 (turn n i g) k
turn_step n i g zero hi hk =
    turn_high n (suc i) g 0 (omega arith)
    ∙ ap (λ (j : ℕ). neg_ℤ (g j)) same_place
    ∙ ap neg_ℤ (sym (turn_low n i g (n + 0 - 1) (omega arith)))
    ∙ sym (turn_high n 1 (turn n i g) 0 (omega arith))
  where
    same_place : n + 0 - suc i ≡ n + 0 - 1 - i
    same_place = omega arith
turn_step n i g (suc k) hi hk =
    ⊎_elim
    (λ l. turn_high n (suc i) g (suc k) (omega arith) ∙ ap (λ (j : ℕ). neg_ℤ (g j)) back ∙ sym (turn_high n i g k l) ∙ ap (turn n i g) one ∙ inner)
    (λ l. turn_low n (suc i) g (suc k) (omega arith) ∙ ap g front ∙ sym (turn_low n i g k l) ∙ ap (turn n i g) one ∙ inner) (lt_or_le k i)
  where
    back : n + suc k - suc i ≡ n + k - i
    back = omega arith

    front : suc k - suc i ≡ k - i
    front = omega arith

    one : k ≡ suc k - 1
    one = omega arith

    inner : turn n i g (suc k - 1) ≡ turn n 1 (turn n i g) (suc k)
    inner = sym (turn_low n 1 (turn n i g) (suc k) (omega arith))

pub turn_add : (n i : ℕ) (f g : Poly) (k : ℕ) → turn n i (λ j. f j +ℤ g j) k ≡ turn n i f k +ℤ turn n i g k
unfolding turn
turn_add n i f g k = go (leb i k)
  where
    go : (t : Bool) → cond t (f (k - i) +ℤ g (k - i)) (neg_ℤ (f (n + k - i) +ℤ g (n + k - i))) ≡ cond t (f (k - i)) (neg_ℤ (f (n + k - i))) +ℤ cond t (g (k - i)) (neg_ℤ (g (n + k - i)))
    go true = refl
    go false = rw (as_difference (f (n + k - i)), as_difference (g (n + k - i))) (simp differences (omega (arith, difference_same)))

pub turn_scale : (n i : ℕ) (c : ℤ) (g : Poly) (k : ℕ) → turn n i (λ j. c *ℤ g j) k ≡ c *ℤ turn n i g k
unfolding turn
turn_scale n i c g k = go (leb i k)
  where
    go : (t : Bool) → cond t (c *ℤ g (k - i)) (neg_ℤ (c *ℤ g (n + k - i))) ≡ c *ℤ cond t (g (k - i)) (neg_ℤ (g (n + k - i)))
    go true = refl
    go false = sym (*ℤ-neg c (g (n + k - i)))

pub turn_same : (q n i : ℕ) (f g : Poly) (k : ℕ) → k < n → ((j : ℕ) → j < n → Same q (f j) (g j)) → Same q (turn n i f k) (turn n i g k)
turn_same q n i f g k hk h =
    ⊎_elim (λ l. rw (turn_high n i f k l, turn_high n i g k l) (same_neg (h (n + k - i) (omega arith))))
    (λ l. rw (turn_low n i f k l, turn_low n i g k l) (h (k - i) (omega arith))) (lt_or_le k i)

-- ---- the product as document 000 would write it: Σ fᵢ g_(k−i) over i ≤ k, less Σ fᵢ g_(n+k−i) over the i above k

pub mul_written : (n : ℕ) (f g : Poly) (k m : ℕ) → suc k + m ≡ n → mul n f g k ≡ sum (suc k) (λ i. f i *ℤ g (k - i)) -ℤ sum m (λ j. f (suc k + j) *ℤ g (suc k + (m - suc j)))
unfolding mul
mul_written n f g k m e =
    ap (λ (t : ℕ). sum t (λ i. f i *ℤ turn n i g k)) (sym e)
    ∙ sum_split (suc k) m (λ i. f i *ℤ turn n i g k)
    ∙ ap₂ ◌+ℤ◌ (sum_ext (suc k) (λ i. f i *ℤ turn n i g k) (λ i. f i *ℤ g (k - i)) (λ i l. ap (λ (t : ℤ). f i *ℤ t) (turn_low n i g k (omega arith))))
    (sum_ext m (λ j. f (suc k + j) *ℤ turn n (suc k + j) g k) (λ j. neg_ℤ (f (suc k + j) *ℤ g (suc k + (m - suc j)))) wrapped
    ∙ sum_neg m (λ j. f (suc k + j) *ℤ g (suc k + (m - suc j))))
  where
    place : (j : ℕ) → j < m → n + k - (suc k + j) ≡ suc k + (m - suc j)
    place j l = omega arith

    wrapped : (j : ℕ) → j < m → f (suc k + j) *ℤ turn n (suc k + j) g k ≡ neg_ℤ (f (suc k + j) *ℤ g (suc k + (m - suc j)))
    wrapped j l =
        ap (λ (t : ℤ). f (suc k + j) *ℤ t) (turn_high n (suc k + j) g k (omega arith) ∙ ap (λ (p : ℕ). neg_ℤ (g p)) (place j l))
        ∙ *ℤ-neg (f (suc k + j)) (g (suc k + (m - suc j)))

-- ---- the product's laws

pub mul_ext : (n : ℕ) (f f' g g' : Poly) (k : ℕ) → k < n → ((j : ℕ) → j < n → f j ≡ f' j) → ((j : ℕ) → j < n → g j ≡ g' j) → mul n f g k ≡ mul n f' g' k
unfolding mul
mul_ext n f f' g g' k hk hf hg =
    sum_ext n (λ i. f i *ℤ turn n i g k) (λ i. f' i *ℤ turn n i g' k) (λ i l. ap₂ ◌*ℤ◌ (hf i l) (turn_ext n i g g' k hk hg))

pub mul_comm : (n : ℕ) (f g : Poly) (k : ℕ) → k < n → mul n f g k ≡ mul n g f k
mul_comm n f g k h =
    mul_written n f g k m split
    ∙ ap₂ ◌-ℤ◌ (sym (sum_reverse (suc k) (λ i. f i *ℤ g (k - i))) ∙ sum_ext (suc k) (λ i. f (suc k - suc i) *ℤ g (k - (suc k - suc i))) (λ i. g i *ℤ f (k - i)) front)
    (sym (sum_reverse m (λ j. f (suc k + j) *ℤ g (suc k + (m - suc j)))) ∙ sum_ext m (λ j. f (suc k + (m - suc j)) *ℤ g (suc k + (m - suc (m - suc j)))) (λ j. g (suc k + j) *ℤ f (suc k + (m - suc j))) back)
    ∙ sym (mul_written n g f k m split)
  where
    m : ℕ
    m = n - suc k

    split : suc k + m ≡ n
    split = omega arith

    first : (i : ℕ) → i < suc k → suc k - suc i ≡ k - i
    first i l = omega arith

    undone : (i : ℕ) → i < suc k → k - (suc k - suc i) ≡ i
    undone i l = omega arith

    front : (i : ℕ) → i < suc k → f (suc k - suc i) *ℤ g (k - (suc k - suc i)) ≡ g i *ℤ f (k - i)
    front i l = ap₂ (λ (x y : ℕ). f x *ℤ g y) (first i l) (undone i l) ∙ *ℤ_comm (f (k - i)) (g i)

    last : (j : ℕ) → j < m → suc k + (m - suc (m - suc j)) ≡ suc k + j
    last j l = omega arith

    back : (j : ℕ) → j < m → f (suc k + (m - suc j)) *ℤ g (suc k + (m - suc (m - suc j))) ≡ g (suc k + j) *ℤ f (suc k + (m - suc j))
    back j l = ap (λ (y : ℕ). f (suc k + (m - suc j)) *ℤ g y) (last j l) ∙ *ℤ_comm (f (suc k + (m - suc j))) (g (suc k + j))

pub mul_add : (n : ℕ) (f g h : Poly) (k : ℕ) → mul n (λ i. f i +ℤ g i) h k ≡ mul n f h k +ℤ mul n g h k
unfolding mul
mul_add n f g h k =
    sum_ext n (λ i. (f i +ℤ g i) *ℤ turn n i h k) (λ i. f i *ℤ turn n i h k +ℤ g i *ℤ turn n i h k) (λ i l. +ℤ-*ℤ (f i) (g i) (turn n i h k))
    ∙ sum_add n (λ i. f i *ℤ turn n i h k) (λ i. g i *ℤ turn n i h k)

pub add_mul : (n : ℕ) (f g h : Poly) (k : ℕ) → mul n f (λ i. g i +ℤ h i) k ≡ mul n f g k +ℤ mul n f h k
unfolding mul
add_mul n f g h k =
    sum_ext n (λ i. f i *ℤ turn n i (λ j. g j +ℤ h j) k) (λ i. f i *ℤ turn n i g k +ℤ f i *ℤ turn n i h k)
    (λ i l. ap (λ (t : ℤ). f i *ℤ t) (turn_add n i g h k) ∙ *ℤ-+ℤ (f i) (turn n i g k) (turn n i h k))
    ∙ sum_add n (λ i. f i *ℤ turn n i g k) (λ i. f i *ℤ turn n i h k)

pub mul_scale : (n : ℕ) (c : ℤ) (f g : Poly) (k : ℕ) → mul n (λ i. c *ℤ f i) g k ≡ c *ℤ mul n f g k
unfolding mul
mul_scale n c f g k =
    sum_ext n (λ i. c *ℤ f i *ℤ turn n i g k) (λ i. c *ℤ (f i *ℤ turn n i g k)) (λ i l. *ℤ-assoc c (f i) (turn n i g k))
    ∙ sum_scale n c (λ i. f i *ℤ turn n i g k)

-- ---- associativity: (xⁱ · g) · h is xⁱ · (g · h), one step at a time

turn_none : (n : ℕ) (g : Poly) (k : ℕ) → turn n 0 g k ≡ g k
turn_none n g k = turn_low n 0 g k (omega arith) ∙ ap g same_place
  where
    same_place : k - 0 ≡ k
    same_place = omega arith

turn_whole : (n : ℕ) (g : Poly) (k : ℕ) → k < n → turn n n g k ≡ neg_ℤ (g k)
turn_whole n g k h = turn_high n n g k h ∙ ap (λ (j : ℕ). neg_ℤ (g j)) same_place
  where
    same_place : n + k - n ≡ k
    same_place = omega arith

pub turn_sum : (n i m : ℕ) (f : ℕ → Poly) (k : ℕ) → turn n i (λ j. sum m (λ l. f l j)) k ≡ sum m (λ l. turn n i (f l) k)
unfolding turn
turn_sum n i m f k = go (leb i k)
  where
    go : (t : Bool) → cond t (sum m (λ l. f l (k - i))) (neg_ℤ (sum m (λ l. f l (n + k - i)))) ≡ sum m (λ l. cond t (f l (k - i)) (neg_ℤ (f l (n + k - i))))
    go true = refl
    go false = sym (sum_neg m (λ l. f l (n + k - i)))

-- both sides of the step are Σ gⱼ times coefficient k of xʲ⁺¹ · h
step_left : (p : ℕ) (g h : Poly) (k : ℕ) → k < suc p → mul (suc p) (turn (suc p) 1 g) h k ≡ sum (suc p) (λ j. g j *ℤ turn (suc p) (suc j) h k)
unfolding mul sum
step_left p g h k hk =
    sum_first p (λ j. turn n 1 g j *ℤ turn n j h k)
    ∙ ap₂ ◌+ℤ◌ (ap₂ ◌*ℤ◌ (turn_high n 1 g 0 (omega arith) ∙ ap (λ (j : ℕ). neg_ℤ (g j)) last) (turn_none n h k) ∙ neg-*ℤ (g p) (h k))
    (sum_ext p (λ j. turn n 1 g (suc j) *ℤ turn n (suc j) h k) (λ j. g j *ℤ turn n (suc j) h k)
    (λ j l. ap (λ (t : ℤ). t *ℤ turn n (suc j) h k) (turn_low n 1 g (suc j) (omega arith) ∙ ap g (before j))))
    ∙ +ℤ_comm (neg_ℤ (g p *ℤ h k)) (sum p (λ j. g j *ℤ turn n (suc j) h k))
    ∙ ap (λ (t : ℤ). sum p (λ j. g j *ℤ turn n (suc j) h k) +ℤ t) (sym (*ℤ-neg (g p) (h k)) ∙ ap (λ (t : ℤ). g p *ℤ t) (sym (turn_whole n h k hk)))
  where
    n : ℕ
    n = suc p

    last : suc p + 0 - 1 ≡ p
    last = omega arith

    before : (j : ℕ) → suc j - 1 ≡ j
    before j = omega arith

step_right : (n : ℕ) (g h : Poly) (k : ℕ) → k < n → turn n 1 (mul n g h) k ≡ sum n (λ j. g j *ℤ turn n (suc j) h k)
unfolding mul
step_right n g h k hk =
    turn_sum n 1 n (λ j k. g j *ℤ turn n j h k) k
    ∙ sum_ext n (λ j. turn n 1 (λ k. g j *ℤ turn n j h k) k) (λ j. g j *ℤ turn n (suc j) h k)
    (λ j l. turn_scale n 1 (g j) (turn n j h) k ∙ ap (λ (t : ℤ). g j *ℤ t) (sym (turn_step n j h k l hk)))

step : (n : ℕ) (g h : Poly) (k : ℕ) → k < n → mul n (turn n 1 g) h k ≡ turn n 1 (mul n g h) k
step zero g h k hk = absurd (omega arith)
step (suc p) g h k hk = step_left p g h k hk ∙ sym (step_right (suc p) g h k hk)

pub turn_mul : (n i : ℕ) (g h : Poly) (k : ℕ) → i ≤ n → k < n → mul n (turn n i g) h k ≡ turn n i (mul n g h) k
turn_mul n zero g h k hi hk =
    mul_ext n (turn n 0 g) g h h k hk (λ j l. turn_none n g j) (λ j l. refl) ∙ sym (turn_none n (mul n g h) k)
turn_mul n (suc i) g h k hi hk =
    mul_ext n (turn n (suc i) g) (turn n 1 (turn n i g)) h h k hk (λ j l. turn_step n i g j hi l) (λ j l. refl)
    ∙ step n (turn n i g) h k hk
    ∙ turn_ext n 1 (mul n (turn n i g) h) (turn n i (mul n g h)) k hk (λ j l. turn_mul n i g h j (omega arith) l)
    ∙ sym (turn_step n i (mul n g h) k hi hk)

pub mul_assoc : (n : ℕ) (f g h : Poly) (k : ℕ) → k < n → mul n (mul n f g) h k ≡ mul n f (mul n g h) k
unfolding mul
mul_assoc n f g h k hk =
    sum_ext n (λ j. sum n (λ i. f i *ℤ turn n i g j) *ℤ turn n j h k) (λ j. sum n (λ i. f i *ℤ (turn n i g j *ℤ turn n j h k)))
    (λ j l. sym (sum_times n (λ i. f i *ℤ turn n i g j) (turn n j h k)) ∙ sum_ext n (λ i. f i *ℤ turn n i g j *ℤ turn n j h k) (λ i. f i *ℤ (turn n i g j *ℤ turn n j h k)) (λ i m. *ℤ-assoc (f i) (turn n i g j) (turn n j h k)))
    ∙ sum_swap n n (λ j i. f i *ℤ (turn n i g j *ℤ turn n j h k))
    ∙ sum_ext n (λ i. sum n (λ j. f i *ℤ (turn n i g j *ℤ turn n j h k))) (λ i. f i *ℤ turn n i (mul n g h) k)
    (λ i l. sum_scale n (f i) (λ j. turn n i g j *ℤ turn n j h k) ∙ ap (λ (t : ℤ). f i *ℤ t) (turn_mul n i g h k (omega arith) hk))

pub mul_same : (q n : ℕ) (f f' g g' : Poly) (k : ℕ) → k < n → ((j : ℕ) → j < n → Same q (f j) (f' j)) → ((j : ℕ) → j < n → Same q (g j) (g' j)) → Same q (mul n f g k) (mul n f' g' k)
unfolding mul
mul_same q n f f' g g' k hk hf hg =
    sum_same q n (λ i. f i *ℤ turn n i g k) (λ i. f' i *ℤ turn n i g' k) (λ i l. same_mul (hf i l) (turn_same q n i g g' k hk hg))
