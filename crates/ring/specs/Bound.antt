-- How large a coefficient of a product is, where one factor has at most h coefficients +1 or −1 and no others: at most the sum
-- of the h largest absolute values of the other factor's coefficients.
-- Assumes nothing.
use Rattle.std.specs.Prelude.{◌≡◌, refl, List, [], ◌∷◌, length, get_or, ◌*ℤ◌}
use Rattle.std.proofs.Common.{sym, ap, ap₂, ◌∙◌, ⊎_elim, arith}
use Prim.Native.Nat.{ℕ, zero, suc, ◌+◌, ◌*◌, ◌-◌, ◌≤◌, ◌<◌}
use Rattle.std.proofs.lemmas.List.{length-map}
use Rattle.std.proofs.Math.ListN.{get_or-map}
use Rattle.std.proofs.Math.IntN.{nat_abs}
use Rattle.whole.specs.Int.{lt_or_le, abs_neg, abs_product, less_one}
use Rattle.whole.specs.Sum.{total}
use Rattle.whole.specs.SumLaws.{sum_abs, total_ext, total_split, total_reverse}
use Rattle.whole.specs.Table.{table}
use Rattle.whole.specs.TableLaws.{length_table, get_or_table}
use Rattle.whole.specs.Twos.{signed}
use Rattle.ring.specs.Product.{Poly, turn, mul}
use Rattle.ring.specs.ProductLaws.{turn_low, turn_high}
use Rattle.ring.specs.Lists.{signed_bytes}
use Rattle.ring.specs.Largest.{largest, sizes}
use Rattle.ring.specs.LargestLaws.{largest_skip, largest_take}

-- n coefficients, of which at most h are +1 or −1 and every other is 0
pub record AtMost (n h : ℕ) (c : Poly) : Type 0 where
  pub small : (i : ℕ) → i < n → nat_abs (c i) ≤ 1
  pub few : total n (λ i. nat_abs (c i)) ≤ h

-- ---- weights of at most 1 that sum to at most h pick at most the h largest

total_first : (n : ℕ) (f : ℕ → ℕ) → total (suc n) f ≡ f 0 + total n (λ i. f (suc i))
unfolding total
total_first zero f = omega arith
total_first (suc n) f = omega (arith, total_first n f)

total_none : (f : ℕ → ℕ) → total 0 f ≡ 0
unfolding total
total_none f = refl

chosen : (h x y : ℕ) (xs : List ℕ) → 0 < h → y ≤ largest (h - 1) xs → x + y ≤ largest h (x ∷ xs)
chosen zero x y xs l m = absurd (omega arith)
chosen (suc h) x y xs l m = omega (arith, largest_take h x xs, rw (less_one h) at m)

pub weighted : (xs : List ℕ) (h : ℕ) (w : ℕ → ℕ) → ((i : ℕ) → i < length xs → w i ≤ 1) → total (length xs) w ≤ h → total (length xs) (λ i. get_or xs i 0 * w i) ≤ largest h xs
weighted [] h w one few = omega (arith, total_none (λ i. 0 * w i))
weighted (x ∷ xs) h w one few =
    ⊎_elim
    (λ l. omega (arith, split, full l, chosen h x picked xs (omega (arith, total_first (length xs) w)) (weighted xs (h - 1) rest ones (omega (arith, total_first (length xs) w)))))
    (λ l. omega (arith, split, empty (omega arith), largest_skip h x xs, weighted xs h rest ones (omega (arith, total_first (length xs) w))))
    (lt_or_le 0 (w 0))
  where
    rest : ℕ → ℕ
    rest i = w (suc i)

    ones : (i : ℕ) → i < length xs → w (suc i) ≤ 1
    ones i l = one (suc i) (omega arith)

    picked : ℕ
    picked = total (length xs) (λ i. get_or xs i 0 * w (suc i))

    split : total (suc (length xs)) (λ i. get_or {A = ℕ} (x ∷ xs) i 0 * w i) ≡ x * w 0 + picked
    split = total_first (length xs) (λ i. get_or {A = ℕ} (x ∷ xs) i 0 * w i)

    full : 0 < w 0 → x * w 0 ≡ x * 1
    full l = ap (λ (t : ℕ). x * t) is_one
      where
        is_one : w 0 ≡ 1
        is_one = omega (arith, one 0 (omega arith))

    empty : w 0 ≡ 0 → x * w 0 ≡ x * 0
    empty e = ap (λ (t : ℕ). x * t) e

-- ---- the weights of the product's coefficient k

turn_abs : (n i : ℕ) (c : Poly) (k : ℕ) → i < n → k < n → ((j : ℕ) → j < n → nat_abs (c j) ≤ 1) → nat_abs (turn n i c k) ≤ 1
turn_abs n i c k hi hk one =
    ⊎_elim (λ l. rw (turn_high n i c k l, abs_neg (c (n + k - i))) (one (n + k - i) (omega arith)))
    (λ l. rw (turn_low n i c k l) (one (k - i) (omega arith))) (lt_or_le k i)

turn_total : (n : ℕ) (c : Poly) (k : ℕ) → k < n → total n (λ i. nat_abs (turn n i c k)) ≡ total n (λ i. nat_abs (c i))
turn_total n c k h =
    ap (λ (t : ℕ). total t turned) (sym parts)
    ∙ total_split (suc k) m turned
    ∙ ap₂ ◌+◌ (total_ext (suc k) turned (λ i. size (suc k - suc i)) front ∙ total_reverse (suc k) size)
    (total_ext m (λ j. turned (suc k + j)) (λ j. size (suc k + (m - suc j))) back ∙ total_reverse m (λ j. size (suc k + j)))
    ∙ sym (total_split (suc k) m size)
    ∙ ap (λ (t : ℕ). total t size) parts
  where
    m : ℕ
    m = n - suc k

    parts : suc k + m ≡ n
    parts = omega arith

    size : ℕ → ℕ
    size i = nat_abs (c i)

    turned : ℕ → ℕ
    turned i = nat_abs (turn n i c k)

    front : (i : ℕ) → i < suc k → turned i ≡ size (suc k - suc i)
    front i l = ap nat_abs (turn_low n i c k (omega arith)) ∙ ap size place
      where
        place : k - i ≡ suc k - suc i
        place = omega arith

    back : (j : ℕ) → j < m → turned (suc k + j) ≡ size (suc k + (m - suc j))
    back j l = ap nat_abs (turn_high n (suc k + j) c k (omega arith)) ∙ abs_neg (c (n + k - (suc k + j))) ∙ ap size place
      where
        place : n + k - (suc k + j) ≡ suc k + (m - suc j)
        place = omega arith

-- ---- the bound

module _ (n h : ℕ) (f c : Poly) (k : ℕ) (inside : k < n) (most : AtMost n h c) where
  -- xs: the absolute values of f's coefficients
  pub product_bound_sizes : (xs : List ℕ) → length xs ≡ n → ((i : ℕ) → i < n → nat_abs (f i) ≡ get_or xs i 0) → nat_abs (mul n f c k) ≤ largest h xs
  unfolding mul
  product_bound_sizes xs e is =
      omega (arith, sum_abs n (λ i. f i *ℤ turn n i c k), each, rw e at (weighted xs h weight ones few))
    where
      weight : ℕ → ℕ
      weight i = nat_abs (turn n i c k)

      ones : (i : ℕ) → i < length xs → weight i ≤ 1
      ones i l = turn_abs n i c k (omega arith) inside most.small

      few : total (length xs) weight ≤ h
      few = rw (e, turn_total n c k inside) most.few

      each : total n (λ i. nat_abs (f i *ℤ turn n i c k)) ≡ total n (λ i. get_or xs i 0 * weight i)
      each =
          total_ext n (λ i. nat_abs (f i *ℤ turn n i c k)) (λ i. get_or xs i 0 * weight i)
          (λ i l. abs_product (f i) (turn n i c k) ∙ ap (λ (t : ℕ). t * weight i) (is i l))

  pub product_bound : nat_abs (mul n f c k) ≤ largest h (table n (λ i. nat_abs (f i)))
  product_bound =
      product_bound_sizes (table n (λ i. nat_abs (f i))) (length_table n (λ i. nat_abs (f i)))
      (λ i l. sym (get_or_table n i (λ i. nat_abs (f i)) 0 l))

-- the same of a factor of signed bytes
pub bytes_bound : (n h : ℕ) (e : List ℕ) (c : Poly) (k : ℕ) → length e ≡ n → k < n → AtMost n h c → nat_abs (mul n (signed_bytes e) c k) ≤ largest h (sizes e)
unfolding signed
bytes_bound n h e c k long inside most =
    product_bound_sizes n h (signed_bytes e) c k inside most (sizes e) (length-map e (λ (b : ℕ). nat_abs (signed 8 b)) ∙ long)
    (λ i l. sym (get_or-map (λ (b : ℕ). nat_abs (signed 8 b)) e i 0))
