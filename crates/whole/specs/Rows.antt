-- Stretches of n elements in a row: stretch i is the n elements from n · i on.
--     row_fits, row_within      it ends inside k of them
--     row_next        where the next one starts
--     row_lent        the stretch, as code lends it: from n · i to n · i + n
-- A part that was lent has come back with other elements:
--     back_length     the slice is as long as it was
--     back_rest       what follows the part is as it was
-- Assumes nothing.
use Rattle.std.specs.Prelude.{◌≡◌, List, ◌++◌, ℕ, ◌+◌, ◌*◌, ◌-◌, ◌≤◌, ◌<◌, length, take, drop}
use Rattle.std.proofs.Common.{sym, ap, ◌∙◌, mul-le-mul_left, mul-suc, mul_comm, add-one, arith, length-append, length-drop, length-take, drop-drop, drop_at, length-take-le}
use Rattle.std.proofs.Math.Seq.{drop-append-add}
use Rattle.whole.specs.Parts.{part_lent}

pub row_fits : (n k i : ℕ) → i < k → n * i + n ≤ k * n
row_fits n k i h = omega (arith, mul-le-mul_left n h, mul-suc n i, mul_comm k n)

-- of a list of k · n elements
pub row_within : {A : Type 0} (n k i : ℕ) (xs : List A) → length xs ≡ k * n → i < k → n * i + n ≤ length xs
row_within n k i xs e h = rw e (row_fits n k i h)

pub row_next : (n i : ℕ) → n * (i + 1) ≡ n * i + n
row_next n i = rw add-one (mul-suc n i)

module _ {A : Type 0} where
  pub row_lent : (n i : ℕ) (xs : List A) → take (n * i + n - n * i) (drop (n * i) xs) ≡ take n (drop (n * i) xs)
  row_lent n i xs = part_lent (n * i) n xs

  module _ (a m : ℕ) (xs new : List A) (fits : a + m ≤ length xs) (long : length new ≡ m) where
    pub back_length : length (take a xs ++ (new ++ drop m (drop a xs))) ≡ length xs
    back_length = simp (length-append, length-take, length-drop) (omega arith)

    pub back_rest : drop (a + m) (take a xs ++ (new ++ drop m (drop a xs))) ≡ drop (a + m) xs
    back_rest =
        ap (λ (j : ℕ). drop (j + m) (take a xs ++ (new ++ drop m (drop a xs)))) (sym front)
        ∙ drop-append-add (take a xs) (new ++ drop m (drop a xs)) m
        ∙ drop_at new (drop m (drop a xs)) m long
        ∙ drop-drop m a xs
      where
        front : length (take a xs) ≡ a
        front = length-take-le a xs (omega arith)
