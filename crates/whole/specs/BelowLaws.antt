-- Laws of lists whose every number is below a bound, and of lists of whole numbers from −m to m. Assumes nothing.
use Rattle.std.proofs.Common.{sym, subst, ⊎_elim, suc-le-suc, le_of_suc-le-suc, arith, length-take, length-drop, get_or-take, get_or-drop}
use Rattle.std.specs.Prelude.{List, [], ◌∷◌, ◌++◌, ℕ, zero, suc, ◌+◌, ◌≤◌, ◌<◌, ◌^◌, length, get_or, take, drop, replicate, ℤ, pos, nat_abs}
use Rattle.std.proofs.Math.ListN.{get_or-eq_default}
use Rattle.whole.specs.Int.{lt_or_le}
use Rattle.whole.specs.Table.{table, joined}
use Rattle.whole.specs.TableLaws.{get_or_table, length_table}
use Rattle.whole.specs.Below.{Below, Within}

pub below_at : {m : ℕ} {xs : List ℕ} (i : ℕ) → Below m xs → i < length xs → get_or xs i 0 < m
below_at i b l = b.at i l

pub below_none : {m : ℕ} → Below m []
below_none = record { at = λ i l. absurd (omega arith) }

-- bytes, as the code knows them
pub below_bytes : (xs : List ℕ) → ((i : ℕ) → get_or xs i 0 < 2 ^ 8) → Below 256 xs
below_bytes xs h = record { at = λ i l. h i }

-- past its end a list reads 0
pub below_any : (m : ℕ) (xs : List ℕ) → 0 < m → Below m xs → (i : ℕ) → get_or xs i 0 < m
below_any m xs h b i =
    ⊎_elim (λ l. b.at i l) (λ l. subst (λ (x : ℕ). x < m) (sym (get_or-eq_default xs 0 l)) h) (lt_or_le i (length xs))

pub below_tail : {m x : ℕ} {xs : List ℕ} → Below m (x ∷ xs) → Below m xs
below_tail b = record { at = λ i l. b.at (suc i) (suc-le-suc l) }

pub below_cons : {m x : ℕ} {xs : List ℕ} → x < m → Below m xs → Below m (x ∷ xs)
below_cons {m} {x} {xs} h b = record { at = go }
  where
    go : (i : ℕ) → i < length (x ∷ xs) → get_or (x ∷ xs) i 0 < m
    go zero l = h
    go (suc i) l = b.at i (le_of_suc-le-suc l)

pub below_append : (m : ℕ) (xs ys : List ℕ) → Below m xs → Below m ys → Below m (xs ++ ys)
below_append m [] ys a b = b
below_append m (x ∷ xs) ys a b = below_cons (a.at 0 (omega arith)) (below_append m xs ys (below_tail a) b)

pub below_take : (m n : ℕ) (xs : List ℕ) → Below m xs → Below m (take n xs)
below_take m n xs b =
    record { at = λ i l. rw (get_or-take n xs i 0 (omega (arith, length-take n xs))) (b.at i (omega (arith, length-take n xs))) }

pub below_drop : (m n : ℕ) (xs : List ℕ) → Below m xs → Below m (drop n xs)
below_drop m n xs b = record { at = λ i l. rw (get_or-drop n xs i 0) (b.at (n + i) (omega (arith, length-drop n xs))) }

pub below_part : (m a n : ℕ) (xs : List ℕ) → Below m xs → Below m (take n (drop a xs))
below_part m a n xs b = below_take m n (drop a xs) (below_drop m a xs b)

pub below_zeros : {m : ℕ} → 0 < m → (n : ℕ) → Below m (replicate n 0)
below_zeros h zero = below_none
below_zeros h (suc n) = below_cons h (below_zeros h n)

pub below_more : {m k : ℕ} (xs : List ℕ) → m ≤ k → Below m xs → Below k xs
below_more xs h b = record { at = λ i l. omega (arith, b.at i l) }

pub below_table : (m n : ℕ) (f : ℕ → ℕ) → ((k : ℕ) → k < n → f k < m) → Below m (table n f)
below_table m n f h =
    record
    { at = λ i l. subst (λ (x : ℕ). x < m) (sym (get_or_table n i f 0 (omega (arith, length_table n f)))) (h i (omega (arith, length_table n f))) }

pub below_joined : (m k : ℕ) (f : ℕ → List ℕ) → ((i : ℕ) → i < k → Below m (f i)) → Below m (joined k f)
unfolding joined
below_joined m zero f h = below_none
below_joined m (suc k) f h =
    below_append m (joined k f) (f k) (below_joined m k f (λ i l. h i (omega arith))) (h k (omega arith))

-- ---- whole numbers

pub within_more : {m k : ℕ} (zs : List ℤ) → m ≤ k → Within m zs → Within k zs
within_more zs h w = record { at = λ i l. omega (arith, w.at i l) }

pub within_table : (m n : ℕ) (f : ℕ → ℤ) → ((k : ℕ) → k < n → nat_abs (f k) ≤ m) → Within m (table n f)
within_table m n f h =
    record
    { at = λ i l. subst (λ (z : ℤ). nat_abs z ≤ m) (sym (get_or_table n i f (pos 0) (omega (arith, length_table n f)))) (h i (omega (arith, length_table n f))) }
