-- A polynomial that is given as different positions with signs +1 or −1 has ±1 at the positions and 0 elsewhere.
-- Assumes nothing.
use Rattle.std.specs.Prelude.{◌≡◌, refl, Bool, true, false, ◌||◌, List, [], ◌∷◌, ℕ, zero, suc, ◌+◌, ◌≤◌, eqb, ℤ, pos, nat_abs, ◌+ℤ◌, length}
use Rattle.std.proofs.Common.{sym, ⊎_elim, zero-le, suc-le-suc, arith, eqb-true}
use Rattle.std.proofs.lemmas.Bool.{false≢true, eqb-false}
use Rattle.std.proofs.Math.IntN.{+ℤ_idl, +ℤ_idr}
use Rattle.whole.specs.Int.{lt_or_le, abs_sum}
use Rattle.whole.specs.BelowLaws.{below_tail}
use Rattle.whole.specs.Sum.{total}
use Rattle.whole.specs.SumLaws.{total_zero, total_add, total_le}
use Rattle.ring.specs.Sparse.{term, sparse, Signed}
use Rattle.ring.specs.SparseLaws.{sign_size, term_at, term_off}
use Rattle.sampling.specs.Positions.{is_in}
use Rattle.sampling.specs.FreeLaws.{Distinct, distinct_tail, distinct_head}

signed_tail : {n p : ℕ} {s : ℤ} {ps : List ℕ} {ss : List ℤ} → Signed n (p ∷ ps) (s ∷ ss) → Signed n ps ss
signed_tail h =
    record {
      paired = omega (arith, h.paired);
      inside = below_tail h.inside;
      signs = λ i l. h.signs (suc i) (suc-le-suc l);
    }

-- 0 where there is no position
sparse_off : (ps : List ℕ) (ss : List ℤ) (k : ℕ) → is_in k ps ≡ false → sparse ps ss k ≡ pos 0
unfolding sparse is_in
sparse_off [] ss k e = refl
sparse_off (p ∷ ps) [] k e = refl
sparse_off (p ∷ ps) (s ∷ ss) k e = go (eqb k p) refl e (sparse_off ps ss k)
  where
    go : (t : Bool) → eqb k p ≡ t → (t || is_in k ps) ≡ false → (is_in k ps ≡ false → sparse ps ss k ≡ pos 0) → term p s k +ℤ sparse ps ss k ≡ pos 0
    go true q e ih = absurd (false≢true (sym e))
    go false q e ih = rw (term_off p s k (λ r. eqb-false k p q (sym r)), ih e)

pub sparse_small : (n : ℕ) (ps : List ℕ) (ss : List ℤ) → Signed n ps ss → Distinct ps → (k : ℕ) → nat_abs (sparse ps ss k) ≤ 1
unfolding sparse
sparse_small n [] ss h d k = zero-le
sparse_small n (p ∷ ps) [] h d k = zero-le
sparse_small n (p ∷ ps) (s ∷ ss) h d k = go (eqb p k) refl (sparse_small n ps ss (signed_tail h) (distinct_tail d) k)
  where
    go : (t : Bool) → eqb p k ≡ t → nat_abs (sparse ps ss k) ≤ 1 → nat_abs (term p s k +ℤ sparse ps ss k) ≤ 1
    go true e ih =
        rw (← eqb-true p k e)
        (rw (term_at p s, sparse_off ps ss p (distinct_head p ps d), +ℤ_idr s) (omega (arith, sign_size (h.signs 0 (omega arith)))))
    go false e ih = rw (term_off p s k (eqb-false p k e), +ℤ_idl (sparse ps ss k)) ih

term_none : (n p : ℕ) (s : ℤ) → n ≤ p → total n (λ k. nat_abs (term p s k)) ≡ 0
unfolding total
term_none zero p s h = refl
term_none (suc n) p s h = rw (term_none n p s (omega arith), term_off p s n (λ e. omega (arith, e)))

term_total : (n p : ℕ) (s : ℤ) → total n (λ k. nat_abs (term p s k)) ≤ nat_abs s
unfolding total
term_total zero p s = zero-le
term_total (suc n) p s =
    ⊎_elim (λ l. rw (term_off p s n (λ e. omega (arith, e))) (omega (arith, term_total n p s)))
    (λ l. rw (term_none n p s l) (last (eqb p n) refl)) (lt_or_le p n)
  where
    last : (t : Bool) → eqb p n ≡ t → 0 + nat_abs (term p s n) ≤ nat_abs s
    last true e = rw (← eqb-true p n e) (rw (term_at p s) (omega arith))
    last false e = rw (term_off p s n (eqb-false p n e)) zero-le

pub sparse_total : (n m : ℕ) (ps : List ℕ) (ss : List ℤ) → Signed n ps ss → total m (λ k. nat_abs (sparse ps ss k)) ≤ length ps
unfolding sparse
sparse_total n m [] ss h = rw (total_zero m) zero-le
sparse_total n m (p ∷ ps) [] h = rw (total_zero m) zero-le
sparse_total n m (p ∷ ps) (s ∷ ss) h =
    omega (
      arith,
      total_le m (λ k. nat_abs (term p s k +ℤ sparse ps ss k)) (λ k. nat_abs (term p s k) + nat_abs (sparse ps ss k)) (λ k l. abs_sum (term p s k) (sparse ps ss k)),
      total_add m (λ k. nat_abs (term p s k)) (λ k. nat_abs (sparse ps ss k)),
      term_total m p s,
      sign_size (h.signs 0 (omega arith)),
      sparse_total n m ps ss (signed_tail h),
    )
