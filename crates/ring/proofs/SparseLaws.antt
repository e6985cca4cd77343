-- The code's sums over the positions of a sparse polynomial are coefficients of the product by it. Assumes nothing.
use Rattle.std.proofs.Common.{◌≡◌, refl, sym, ap, ap₂, ◌∙◌, List, [], ◌∷◌, map, ℕ, suc, ◌+◌, ◌*◌, ◌-◌, ◌^◌, ◌≤◌, ◌<◌, min, length, get_or, ℤ, pos, negsuc, neg_ℤ, nat_abs, ◌+ℤ◌, ◌*ℤ◌, inl, inr, ⊎_elim, w8, w32, w64, to_z, of_z, arith, add-one, to_z-of_z, SFits}
use Rattle.std.proofs.lemmas.Int.{fits_signed_from_abs}
use Rattle.std.specs.Int.{int_rem_euclid}
use Rattle.std.proofs.lemmas.List.{get_or_default, length-map}
use Rattle.std.proofs.Math.ListN.{get_or-map}
use Rattle.whole.specs.Int.{lt_or_le, abs_sum, abs_neg, abs_product}
use Rattle.whole.specs.Residue.{residue}
use Rattle.whole.specs.Twos.{signed}
use Rattle.whole.specs.TwosLaws.{signed_size}
use Rattle.whole.specs.Sum.{sum}
use Rattle.whole.specs.SumLaws.{sum_first}
use Rattle.ring.specs.Product.{Poly, turn, mul}
use Rattle.ring.specs.ProductLaws.{turn_low, turn_high}
use Rattle.ring.specs.Lists.{naturals, integers, signed_bytes}
use Rattle.ring.specs.Sparse.{turns, sparse, Sign, Signed}
use Rattle.ring.specs.SparseLaws.{mul_sparse, sign_size}
use Rattle.ring.specs.Asks.{Turnable, SparseProduct, ByteProduct}

-- ---- one turn, where v reads an element of xs

module _ {A : Type 0} (v : A → ℤ) (xs : List A) (p k : ℕ) (x : A) where
  value_at : (i : ℕ) → i < length xs → x ≡ get_or xs i x → v x ≡ integers (map v xs) i
  value_at i l e =
      ap v e ∙ sym (get_or-map v xs i x) ∙ get_or_default (map v xs) i (v x) (pos 0) (omega (arith, length-map xs v))

  pub turned_low : k < length xs → p ≤ k → x ≡ get_or xs (k - p) x → v x ≡ turn (length xs) p (integers (map v xs)) k
  turned_low l m e = value_at (k - p) (omega arith) e ∙ sym (turn_low (length xs) p (integers (map v xs)) k m)

  pub turned_high : k < length xs → p < length xs → k < p → x ≡ get_or xs (length xs - (p - k)) x → neg_ℤ (v x) ≡ turn (length xs) p (integers (map v xs)) k
  turned_high l h m e =
      ap neg_ℤ (value_at (length xs - (p - k)) (omega arith) e ∙ ap (integers (map v xs)) place)
      ∙ sym (turn_high (length xs) p (integers (map v xs)) k m)
    where
      place : length xs - (p - k) ≡ length xs + k - p
      place = omega arith

-- ---- the sum over the positions

-- the term of position j
abbrev pub signed_turn : ℕ → Poly → List ℕ → List ℤ → ℕ → ℕ → ℤ
signed_turn n f ps ss k j = get_or ss j (pos 0) *ℤ turn n (get_or ps j 0) f k

-- z is the sum of the first j terms
pub record Summed (n : ℕ) (f : Poly) (ps : List ℕ) (ss : List ℤ) (k j : ℕ) (z : ℤ) : Type 0 where
  pub most : nat_abs z ≤ 2 ^ 32 * j
  pub is : z ≡ sum j (signed_turn n f ps ss k)

turns_sum : (n : ℕ) (f : Poly) (ps : List ℕ) (ss : List ℤ) (k : ℕ) → length ss ≡ length ps → turns n f ps ss k ≡ sum (length ps) (signed_turn n f ps ss k)
unfolding turns sum
turns_sum n f [] ss k e = refl
turns_sum n f (p ∷ ps) [] k e = absurd (omega arith)
turns_sum n f (p ∷ ps) (s ∷ ss) k e =
    ap (λ (z : ℤ). s *ℤ turn n p f k +ℤ z) (turns_sum n f ps ss k (omega arith))
    ∙ sym (sum_first (length ps) (signed_turn n f (p ∷ ps) (s ∷ ss) k))

-- a sign is read as it is, and a number that is small enough is what its machine word says
sign_read : {s : ℤ} → Sign s → to_z w8 (of_z w8 s) ≡ s
sign_read {s} (inl e) = rw e
sign_read {s} (inr e) = rw e

word : (z : ℤ) → nat_abs z < 2 ^ 63 → to_z w64 (of_z w64 z) ≡ z
word z h = to_z-of_z (fits_signed_from_abs w64 z h)

module _ {n : ℕ} {f : Poly} {ps : List ℕ} {ss : List ℤ} {k : ℕ} where
  pub summed_none : Summed n f ps ss k 0 (pos 0)
  unfolding sum
  summed_none = record { most = omega arith; is = refl }

  -- one term more: the turn of `row` at place j has p and x, which the code reads as the position i and the sign s; v is the turned coefficient
  module _ {j p i : ℕ} {z x s v : ℤ} (r : Turnable n ps ss k) (t : (j < length ps) × (j < length ss) × ((d : ℕ) → p ≡ get_or ps j d) × ((d : ℤ) → x ≡ get_or ss j d))
      (h : Summed n f ps ss k j z) (e : s ≡ to_z w8 (of_z w8 x)) (o : i ≡ p) (a : v ≡ turn n i f k) (b : nat_abs v < 2 ^ 32) where
    sign : Sign (get_or ss j (pos 0))
    sign = r.terms.signs j t.1

    s_is : to_z w64 (of_z w64 s) ≡ get_or ss j (pos 0)
    s_is = rw (e, t.3 (pos 0), sign_read sign) (word (get_or ss j (pos 0)) (omega (arith, sign_size sign)))

    v_is : to_z w64 (of_z w64 v) ≡ turn n (get_or ps j 0) f k
    v_is = word v (omega arith) ∙ a ∙ ap (λ (m : ℕ). turn n m f k) (o ∙ t.2 0)

    size : nat_abs (signed_turn n f ps ss k j) < 2 ^ 32
    size = rw (abs_product (get_or ss j (pos 0)) (turn n (get_or ps j 0) f k), sign_size sign, ← v_is, word v (omega arith)) (omega arith)

    pub term_fits : SFits w64 (to_z w64 (of_z w64 s) *ℤ to_z w64 (of_z w64 v))
    term_fits = rw (s_is, v_is) (fits_signed_from_abs w64 (signed_turn n f ps ss k j) (omega (arith, size)))

    term_is : to_z w64 (of_z w64 (to_z w64 (of_z w64 s) *ℤ to_z w64 (of_z w64 v))) ≡ signed_turn n f ps ss k j
    term_is = rw (s_is, v_is) (word (signed_turn n f ps ss k j) (omega (arith, size)))

    next : nat_abs (z +ℤ signed_turn n f ps ss k j) ≤ 2 ^ 32 * (j + 1)
    next = omega (arith, abs_sum z (signed_turn n f ps ss k j), h.most, size)

    pub summed_fits : SFits w64 (z +ℤ to_z w64 (of_z w64 (to_z w64 (of_z w64 s) *ℤ to_z w64 (of_z w64 v))))
    summed_fits = rw term_is (fits_signed_from_abs w64 (z +ℤ signed_turn n f ps ss k j) (omega (arith, next, t.0, r.few)))

    pub summed_more : Summed n f ps ss k (j + 1) (to_z w64 (of_z w64 (z +ℤ to_z w64 (of_z w64 (to_z w64 (of_z w64 s) *ℤ to_z w64 (of_z w64 v))))))
    unfolding sum
    summed_more =
        rw (term_is, word (z +ℤ signed_turn n f ps ss k j) (omega (arith, next, t.0, r.few)))
        (record { most = next; is = rw (add-one j, h.is) })

  pub summed_all : {j : ℕ} {z : ℤ} → Signed n ps ss → j ≡ min (length ps) (length ss) → Summed n f ps ss k j z → z ≡ turns n f ps ss k
  summed_all {j} {z} t e h = h.is ∙ ap (λ (i : ℕ). sum i (signed_turn n f ps ss k)) (omega (arith, e, t.paired)) ∙ sym (turns_sum n f ps ss k t.paired)

  -- and so coefficient k of the product, where g has f's coefficients
  pub product_of : {m : ℕ} {g : Poly} → f ≡ g → Signed n ps ss → k < n → n ≡ m → turns n f ps ss k ≡ mul m g (sparse ps ss) k
  product_of {m} {g} e t l o =
      ap (λ (h : Poly). turns n h ps ss k) e ∙ sym (mul_sparse n g ps ss k l t.inside) ∙ ap (λ (i : ℕ). mul i g (sparse ps ss) k) o

-- ---- modulo q

residue_as : (q : ℕ) (z : ℤ) → nat_abs (int_rem_euclid z (pos q)) ≡ residue q z
unfolding residue
residue_as q (pos a) = refl
residue_as q (negsuc a) = omega arith

naturals_as : (t : List ℕ) → integers (map pos t) ≡ naturals t
naturals_as t = λ i k. get_or-map pos t k 0 i

-- what the code makes of a row r: d is q as it divides by it, and m the remainder
pub sparse_row_of : {q : ℕ} {t ps : List ℕ} {ss : List ℤ} {out : List ℕ} (h : SparseProduct q t ps ss out) (k : ℕ) {r d m : ℤ} → k < length t → q < 2 ^ 32
    → SFits w64 r → r ≡ turns (length t) (integers (map pos t)) ps ss k → d ≡ pos q → m ≡ int_rem_euclid (to_z w64 (of_z w64 r)) (to_z w64 (of_z w64 d))
    → nat_abs m < nat_abs (to_z w64 (of_z w64 d)) → nat_abs (to_z w64 (of_z w64 m)) ≡ residue q (mul (length out) (naturals t) (sparse ps ss) k)
sparse_row_of {q} {t} {ps} {ss} {out} h k {r} {d} {m} l s b e f g c =
    ap nat_abs (word m (omega (arith, c, ap nat_abs d_is)) ∙ g ∙ ap₂ int_rem_euclid (to_z-of_z b) d_is)
    ∙ residue_as q r
    ∙ ap (residue q) (e ∙ product_of (naturals_as t) h.terms l h.long)
  where
    d_is : to_z w64 (of_z w64 d) ≡ pos q
    d_is = rw f (word (pos q) (omega arith))

-- ---- exactly

turn_small : (n p : ℕ) (f : Poly) (k b : ℕ) → ((i : ℕ) → nat_abs (f i) ≤ b) → nat_abs (turn n p f k) ≤ b
turn_small n p f k b h =
    ⊎_elim (λ l. rw (turn_high n p f k l, abs_neg (f (n + k - p))) (h (n + k - p))) (λ l. rw (turn_low n p f k l) (h (k - p))) (lt_or_le k p)

turns_small : (n : ℕ) (f : Poly) (k b : ℕ) → ((i : ℕ) → nat_abs (f i) ≤ b) → (ps : List ℕ) (ss : List ℤ) → ((i : ℕ) → i < length ss → Sign (get_or ss i (pos 0)))
    → nat_abs (turns n f ps ss k) ≤ b * length ps
unfolding turns
turns_small n f k b h [] ss g = omega arith
turns_small n f k b h (p ∷ ps) [] g = omega arith
turns_small n f k b h (p ∷ ps) (s ∷ ss) g =
    let one : nat_abs (s *ℤ turn n p f k) ≤ b = rw (abs_product s (turn n p f k), sign_size (g 0 (omega arith))) (omega (arith, turn_small n p f k b h)) in
    omega (arith, one, abs_sum (s *ℤ turn n p f k) (turns n f ps ss k), turns_small n f k b h ps ss (λ i l. g (suc i) (omega arith)))

bytes_as : (s : List ℕ) → integers (map (signed 8) s) ≡ signed_bytes s
unfolding signed
bytes_as s = λ i k. get_or-map (signed 8) s k 0 i

module _ {s ps : List ℕ} {ss out : List ℤ} (h : ByteProduct s ps ss out) (b : (i : ℕ) → get_or s i 0 < 2 ^ 8) (k : ℕ) (l : k < length s) {r : ℤ}
    (e : r ≡ turns (length s) (integers (map (signed 8) s)) ps ss k) where
  small : nat_abs r < 2 ^ 31
  small =
      omega
      (arith, ap nat_abs (e ∙ ap (λ (f : Poly). turns (length s) f ps ss k) (bytes_as s)), h.few, turns_small (length s) (signed_bytes s) k 128 (λ i. signed_size (get_or s i 0) (b i)) ps ss h.terms.signs)

  pub byte_row_fits : SFits w32 (to_z w64 (of_z w64 r))
  byte_row_fits = rw (word r (omega (arith, small))) (fits_signed_from_abs w32 r small)

  pub byte_row_of : to_z w32 (of_z w32 (to_z w64 (of_z w64 r))) ≡ mul (length out) (signed_bytes s) (sparse ps ss) k
  byte_row_of = to_z-of_z byte_row_fits ∙ word r (omega (arith, small)) ∙ e ∙ product_of (bytes_as s) h.terms l h.long
