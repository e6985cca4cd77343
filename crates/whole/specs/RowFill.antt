-- A row of k polynomials of n coefficients that is written one polynomial after another.
--     filling_none               before the first
--     filling_fits, _lent        the next has its place, of n coefficients
--     filling_more               it is written there
--     filling_length             the row's length stays
--     filling_all                all k are written
-- Assumes nothing.
use Rattle.std.specs.Prelude.{◌≡◌, List, ◌++◌, ℕ, ◌+◌, ◌*◌, ◌-◌, ◌≤◌, ◌<◌, length, take, drop}
use Rattle.std.proofs.Math.Path.{sym}
use Rattle.std.proofs.Common.{ap, ◌∙◌, zero-le, le_antisymm, mul_comm, arith}
use Rattle.std.proofs.Math.Nat.{add-sub_cancel_left}
use Rattle.std.proofs.Math.Numerals.{add-one}
use Rattle.whole.specs.Table.{joined}
use Rattle.whole.specs.TableLaws.{joined_length}
use Rattle.whole.specs.Parts.{part_length}
use Rattle.whole.specs.Rows.{row_fits, row_lent}
use Rattle.whole.specs.Written.{Written, written_none, written_length, written_more, written_all, put_part}

-- f 0 .. f (i − 1) are written
pub record Filling (n k : ℕ) (f : ℕ → List ℕ) (old row : List ℕ) (i : ℕ) : Type 0 where
  pub near : i ≤ k
  pub done : Written (joined i f) old row

module _ {n k : ℕ} {f : ℕ → List ℕ} {old : List ℕ} (long : length old ≡ k * n) (each : (i : ℕ) → i < k → length (f i) ≡ n) where
  pub filling_none : Filling n k f old old 0
  unfolding joined
  filling_none = record { near = zero-le; done = written_none old }

  module _ {row : List ℕ} {i : ℕ} (h : Filling n k f old row i) where
    so_far : length (joined i f) ≡ i * n
    so_far = joined_length i n f (λ j l. each j (omega (arith, h.near)))

    pub filling_length : length row ≡ length old
    filling_length = written_length h.done

    module _ (l : i < k) where
      pub filling_fits : n * i + n ≤ length row
      filling_fits = omega (arith, row_fits n k i l, filling_length)

      pub filling_lent : length (take (n * i + n - n * i) (drop (n * i) row)) ≡ n
      filling_lent = ap length (row_lent n i row) ∙ part_length (n * i) n row filling_fits

      pub filling_more : (new : List ℕ) → new ≡ f i → Filling n k f old (take (n * i) row ++ (new ++ drop (n * i + n - n * i) (drop (n * i) row))) (i + 1)
      unfolding joined
      filling_more new e =
          rw add-one
          (record {
            near = l;
            done =
                written_more h.done (n * i) n (f i) (mul_comm n i ∙ sym so_far) (each i l) (omega (arith, filling_fits, filling_length))
                (rw (e, add-sub_cancel_left (n * i) n) (put_part (n * i) n row (f i)));
          })

    pub filling_all : k ≤ i → row ≡ joined k f
    filling_all l =
        let whole : i ≡ k = le_antisymm h.near l in
        written_all h.done (so_far ∙ ap (λ (j : ℕ). j * n) whole ∙ sym long) ∙ ap (λ (j : ℕ). joined j f) whole
