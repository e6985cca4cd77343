-- The product by a sparse polynomial. Assumes nothing.
use Rattle.std.specs.Prelude.{◌≡◌, refl, List, [], ◌∷◌, ℕ, zero, suc, ◌≤◌, ◌<◌, ℤ, pos, nat_abs, ◌+ℤ◌, ◌*ℤ◌}
use Rattle.std.proofs.Common.{ap, ap₂, ◌∙◌, inl, inr, ⊎_elim, arith, eq-eqb, ne_eqb}
use Rattle.std.proofs.Math.IntN.{+ℤ_idl, +ℤ_idr, zero-*ℤ}
use Rattle.whole.specs.Int.{lt_or_le}
use Rattle.whole.specs.Sum.{sum}
use Rattle.whole.specs.SumLaws.{sum_ext, sum_zero}
use Rattle.whole.specs.Below.{Below}
use Rattle.whole.specs.BelowLaws.{below_tail}
use Rattle.ring.specs.Product.{Poly, turn, mul}
use Rattle.ring.specs.ProductLaws.{mul_comm, mul_add}
use Rattle.ring.specs.Sparse.{term, sparse, turns, Sign}

pub sign_size : {s : ℤ} → Sign s → nat_abs s ≡ 1
sign_size {s} (inl e) = rw e
sign_size {s} (inr e) = rw e

-- ---- the product by a sparse polynomial is the sum of the turns

pub term_at : (p : ℕ) (s : ℤ) → term p s p ≡ s
unfolding term
term_at p s = rw (eq-eqb p p refl)

pub term_off : (p : ℕ) (s : ℤ) (k : ℕ) → (p ≡ k → ⊥) → term p s k ≡ pos 0
unfolding term
term_off p s k h = rw (ne_eqb p k h)

none : (n p : ℕ) (s : ℤ) (g : ℕ → ℤ) → n ≤ p → sum n (λ i. term p s i *ℤ g i) ≡ pos 0
none n p s g h =
    sum_ext n (λ i. term p s i *ℤ g i) (λ i. pos 0)
    (λ i l. ap (λ (t : ℤ). t *ℤ g i) (term_off p s i (λ e. omega (arith, e))) ∙ zero-*ℤ (g i))
    ∙ sum_zero n

-- a sum with one term alone
only : (n p : ℕ) (s : ℤ) (g : ℕ → ℤ) → p < n → sum n (λ i. term p s i *ℤ g i) ≡ s *ℤ g p
unfolding sum
only zero p s g h = absurd (omega arith)
only (suc n) p s g h =
    ⊎_elim
    (λ l. ap₂ ◌+ℤ◌ (only n p s g l) (ap (λ (t : ℤ). t *ℤ g n) (term_off p s n (λ e. omega (arith, e))) ∙ zero-*ℤ (g n)) ∙ +ℤ_idr (s *ℤ g p))
    (λ l. ap₂ ◌+ℤ◌ (none n p s g l) (last (omega arith)) ∙ +ℤ_idl (s *ℤ g p)) (lt_or_le p n)
  where
    last : n ≡ p → term p s n *ℤ g n ≡ s *ℤ g p
    last e = rw e (ap (λ (t : ℤ). t *ℤ g p) (term_at p s))

sparse_mul : (n : ℕ) (f : Poly) (ps : List ℕ) (ss : List ℤ) (k : ℕ) → Below n ps → mul n (sparse ps ss) f k ≡ turns n f ps ss k
unfolding mul sparse turns
sparse_mul n f [] ss k b = sum_ext n (λ i. pos 0 *ℤ turn n i f k) (λ i. pos 0) (λ i l. zero-*ℤ (turn n i f k)) ∙ sum_zero n
sparse_mul n f (p ∷ ps) [] k b = sum_ext n (λ i. pos 0 *ℤ turn n i f k) (λ i. pos 0) (λ i l. zero-*ℤ (turn n i f k)) ∙ sum_zero n
sparse_mul n f (p ∷ ps) (s ∷ ss) k b =
    mul_add n (term p s) (sparse ps ss) f k
    ∙ ap₂ ◌+ℤ◌ (only n p s (λ i. turn n i f k) (b.at 0 (omega arith))) (sparse_mul n f ps ss k (below_tail b))

pub mul_sparse : (n : ℕ) (f : Poly) (ps : List ℕ) (ss : List ℤ) (k : ℕ) → k < n → Below n ps → mul n f (sparse ps ss) k ≡ turns n f ps ss k
mul_sparse n f ps ss k h b = mul_comm n f (sparse ps ss) k h ∙ sparse_mul n f ps ss k b
