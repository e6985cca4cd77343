-- Laws of the list f 0, .., f (n − 1) and of lists in a row. Assumes nothing.
use Rattle.std.specs.Prelude.{◌≡◌, get_or, drop}
use Rattle.std.proofs.Math.Path.{refl, sym, ap, ap₂}
use Rattle.std.proofs.Common.{◌∙◌, add-zero, zero-add, le_of_suc-le-suc, not-suc-le-zero, le_refl, zero-mul, le_of_eq, add-suc, arith, length-append, ext_get_or}
use mathlib.Core.List.{List, [], ◌∷◌, ◌++◌, map, append-nil, append_assoc}
use Prim.Native.Nat.{ℕ, zero, suc, ◌+◌, ◌≤◌, ◌<◌, ◌*◌}
use Rattle.std.proofs.Math.Nat.{suc-mul, mul_comm}
use Rattle.std.proofs.Math.ListN.{length, take}
use Rattle.std.proofs.Math.Seq.{take_all, take-add}
use Rattle.std.proofs.Math.Logic.{⊎_elim}
use Rattle.whole.specs.Int.{lt_or_le}
use Rattle.whole.specs.Parts.{part_first, part_last}
use Rattle.whole.specs.Rows.{row_fits}
use Rattle.whole.specs.Table.{row, table, joined}

module _ {A : Type 0} where
  length_row : (n i : ℕ) (f : ℕ → A) → length (row i n f) ≡ n
  unfolding row
  length_row zero i f = refl
  length_row (suc n) i f = ap suc (length_row n (suc i) f)

  pub length_table : (n : ℕ) (f : ℕ → A) → length (table n f) ≡ n
  length_table n f = length_row n 0 f

  get_or_row : (n i k : ℕ) (f : ℕ → A) (d : A) → k < n → get_or (row i n f) k d ≡ f (i + k)
  unfolding row
  get_or_row zero i k f d h = absurd (not-suc-le-zero h)
  get_or_row (suc n) i zero f d h = ap f (sym (add-zero i))
  get_or_row (suc n) i (suc k) f d h = get_or_row n (suc i) k f d (le_of_suc-le-suc h) ∙ ap f (omega arith)

  pub get_or_table : (n k : ℕ) (f : ℕ → A) (d : A) → k < n → get_or (table n f) k d ≡ f k
  get_or_table n k f d h = get_or_row n 0 k f d h ∙ ap f (zero-add k)

  row_ext : (n i : ℕ) (f g : ℕ → A) → ((k : ℕ) → i ≤ k → k < i + n → f k ≡ g k) → row i n f ≡ row i n g
  unfolding row
  row_ext zero i f g h = refl
  row_ext (suc n) i f g h =
      ap₂ ◌∷◌ (h i (le_refl i) (omega arith)) (row_ext n (suc i) f g (λ k l m. h k (omega arith) (omega arith)))

  pub table_ext : (n : ℕ) (f g : ℕ → A) → ((k : ℕ) → k < n → f k ≡ g k) → table n f ≡ table n g
  table_ext n f g h = row_ext n 0 f g (λ k l m. h k (omega arith))

  -- a list that has f at each place is the table
  pub table_is : (n : ℕ) (f : ℕ → A) (d : A) (xs : List A) → length xs ≡ n → ((k : ℕ) → k < n → get_or xs k d ≡ f k) → xs ≡ table n f
  table_is n f d xs e h =
      ext_get_or d xs (table n f) (e ∙ sym (length_table n f)) (λ k l. h k (omega arith) ∙ sym (get_or_table n k f d (omega arith)))

  pub table_get_or : (xs : List A) (d : A) → xs ≡ table (length xs) (λ k. get_or xs k d)
  table_get_or xs d = table_is (length xs) (λ k. get_or xs k d) d xs refl (λ k l. refl)

  row_last : (n i : ℕ) (f : ℕ → A) → row i (suc n) f ≡ row i n f ++ (f (i + n) ∷ [])
  unfolding row
  row_last zero i f = ap (λ (k : ℕ). f k ∷ []) (sym (add-zero i))
  row_last (suc n) i f = ap (λ (l : List A). f i ∷ l) (row_last n (suc i) f ∙ ap (λ (k : ℕ). row (suc i) n f ++ (f k ∷ [])) (omega arith))

  pub table_suc : (n : ℕ) (f : ℕ → A) → table (suc n) f ≡ table n f ++ (f n ∷ [])
  table_suc n f = row_last n 0 f ∙ ap (λ (k : ℕ). table n f ++ (f k ∷ [])) (zero-add n)

  -- the first m and the n after them
  pub table_split : (m n : ℕ) (f : ℕ → A) → table (m + n) f ≡ table m f ++ table n (λ j. f (m + j))
  unfolding row
  table_split m zero f = rw (add-zero m) (sym (append-nil (table m f)))
  table_split m (suc n) f =
      rw (add-suc m n, table_suc (m + n) f, table_split m n f, append_assoc (table m f) (table n (λ j. f (m + j))) (f (m + n) ∷ []))
      (ap (λ (l : List A). table m f ++ l) (sym (table_suc n (λ j. f (m + j)))))

  -- ---- lists in a row: f 0, then f 1, .., then f (k − 1)

  pub joined_ext : (k : ℕ) (f g : ℕ → List A) → ((i : ℕ) → i < k → f i ≡ g i) → joined k f ≡ joined k g
  unfolding joined
  joined_ext zero f g h = refl
  joined_ext (suc k) f g h = ap₂ ◌++◌ (joined_ext k f g (λ i l. h i (omega arith))) (h k (le_refl (suc k)))

  -- lists of m elements each
  pub joined_length : (k m : ℕ) (f : ℕ → List A) → ((i : ℕ) → i < k → length (f i) ≡ m) → length (joined k f) ≡ k * m
  unfolding joined
  joined_length zero m f h = sym (zero-mul m)
  joined_length (suc k) m f h =
      rw (length-append, joined_length k m f (λ i l. h i (omega arith)), h k (le_refl (suc k)), suc-mul)

  -- list i of them stands from m · i on
  pub joined_part : (k m i : ℕ) (f : ℕ → List A) → ((j : ℕ) → j < k → length (f j) ≡ m) → i < k → take m (drop (m * i) (joined k f)) ≡ f i
  unfolding joined
  joined_part zero m i f h l = absurd (not-suc-le-zero l)
  joined_part (suc k) m i f h l =
      ⊎_elim
      (λ lt. part_first (m * i) m (joined k f) (f k) (rw long (row_fits m k i lt)) ∙ joined_part k m i f (λ j r. h j (omega arith)) lt)
      (λ le. rw (same le) (part_last (m * k) m (joined k f) (f k) (long ∙ mul_comm k m) (h k (le_refl (suc k)))))
      (lt_or_le i k)
    where
      long : length (joined k f) ≡ k * m
      long = joined_length k m f (λ j r. h j (omega arith))

      same : k ≤ i → i ≡ k
      same le = omega arith

  -- a list of k · m elements is its k parts in a row
  pub joined_parts : (k m : ℕ) (xs : List A) → length xs ≡ k * m → joined k (λ i. take m (drop (m * i) xs)) ≡ xs
  unfolding joined
  joined_parts k m xs e = front k (le_refl k) ∙ take_all (k * m) xs (le_of_eq e)
    where
      front : (j : ℕ) → j ≤ k → joined j (λ i. take m (drop (m * i) xs)) ≡ take (j * m) xs
      front zero h = sym (ap (λ (n : ℕ). take n xs) (zero-mul m))
      front (suc j) h = rw (front j (omega arith), suc-mul, take-add, mul_comm m j)

map_row : {A B : Type 0} (f : A → B) (n i : ℕ) (g : ℕ → A) → map f (row i n g) ≡ row i n (λ k. f (g k))
unfolding row
map_row f zero i g = refl
map_row {B = B} f (suc n) i g = ap (λ (l : List B). f (g i) ∷ l) (map_row f n (suc i) g)

pub map_table : {A B : Type 0} (f : A → B) (n : ℕ) (g : ℕ → A) → map f (table n g) ≡ table n (λ k. f (g k))
map_table f n g = map_row f n 0 g
