-- Laws of candidates, which are the pieces of a stream:
--     pieces_append       a stream's pieces are those of its stretches, where each but the last holds whole pieces
--     candidates_length   as many as the stream holds
--     candidates_below    each has its bits
--     candidates_append   those of xs and then those of ys, where xs holds whole candidates
-- Assumes nothing.
use Rattle.std.specs.Prelude.{◌≡◌, List, ◌++◌, ℕ, ◌+◌, ◌*◌, ◌/◌, ◌%◌, ◌^◌, ◌<◌, length, get_or}
use Rattle.std.proofs.Common.{sym, ap, ap₂, ◌∙◌, mod-lt, mul-add, mul_comm, arith, length-append, pow_pos}
use Rattle.std.proofs.Math.Nat.{mod-add-div, mul-add-div, mul-div_right}
use Rattle.packing.specs.Digits.{value}
use Rattle.whole.specs.Table.{table}
use Rattle.whole.specs.TableLaws.{length_table, get_or_table, table_split, table_ext}
use Rattle.whole.specs.Below.{Below}
use Rattle.whole.specs.BelowLaws.{below_table}
use Rattle.whole.specs.Parts.{part_first, part_second}
use Rattle.whole.specs.Rows.{row_within}
use Rattle.sampling.specs.Candidates.{held, piece, candidates}

pub candidates_length : (size bits : ℕ) (stream : List ℕ) → length (candidates size bits stream) ≡ held size stream
unfolding candidates
candidates_length size bits stream = length_table (held size stream) (λ j. piece size stream j % 2 ^ bits)

pub candidates_below : (size bits : ℕ) (stream : List ℕ) → Below (2 ^ bits) (candidates size bits stream)
unfolding candidates
candidates_below size bits stream =
    below_table (2 ^ bits) (held size stream) (λ j. piece size stream j % 2 ^ bits) (λ j l. mod-lt (piece size stream j) (pow_pos bits))

pub candidates_at : (size bits : ℕ) (stream : List ℕ) (j : ℕ) → j < held size stream → get_or (candidates size bits stream) j 0 ≡ piece size stream j % 2 ^ bits
unfolding candidates
candidates_at size bits stream j h = get_or_table (held size stream) j (λ j. piece size stream j % 2 ^ bits) 0 h

-- ---- a stream in stretches

-- the pieces of the first stretch
piece_front : (size m : ℕ) (xs ys : List ℕ) (j : ℕ) → length xs ≡ size * m → j < m → piece size (xs ++ ys) j ≡ piece size xs j
piece_front size m xs ys j e h =
    ap (value 8) (part_first (size * j) size xs ys (row_within size m j xs (e ∙ mul_comm size m) h))

-- and of what follows it
piece_back : (size m : ℕ) (xs ys : List ℕ) (j : ℕ) → length xs ≡ size * m → piece size (xs ++ ys) (m + j) ≡ piece size ys j
piece_back size m xs ys j e =
    rw (mul-add size m j) (ap (value 8) (part_second (size * m) (size * j) size xs ys e))

held_append : (size m : ℕ) (xs ys : List ℕ) → 0 < size → length xs ≡ size * m → held size (xs ++ ys) ≡ m + held size ys
held_append size m xs ys h e = rw (length-append xs ys, e) (mul-add-div h m (length ys))

pieces_cut : {A : Type 0} (g : ℕ → A) (size m : ℕ) (xs ys : List ℕ) → 0 < size → length xs ≡ size * m
    → table (held size (xs ++ ys)) (λ j. g (piece size (xs ++ ys) j))
    ≡ table (held size xs) (λ j. g (piece size xs j)) ++ table (held size ys) (λ j. g (piece size ys j))
pieces_cut {A} g size m xs ys h e =
    ap (λ (k : ℕ). table k (λ j. g (piece size (xs ++ ys) j))) (held_append size m xs ys h e)
    ∙ table_split m (held size ys) (λ j. g (piece size (xs ++ ys) j))
    ∙ ap₂ ◌++◌ (table_ext m (λ j. g (piece size (xs ++ ys) j)) (λ j. g (piece size xs j)) (λ j l. ap g (piece_front size m xs ys j e l)) ∙ ap (λ (k : ℕ). table k (λ j. g (piece size xs j))) (sym whole))
    (table_ext (held size ys) (λ j. g (piece size (xs ++ ys) (m + j))) (λ j. g (piece size ys j)) (λ j l. ap g (piece_back size m xs ys j e)))
  where
    whole : held size xs ≡ m
    whole = ap (λ (k : ℕ). k / size) e ∙ mul-div_right m h

-- what is made of each piece, by any g
pub pieces_append : {A : Type 0} (g : ℕ → A) (size : ℕ) (xs ys : List ℕ) → 0 < size → length xs % size ≡ 0
    → table (held size (xs ++ ys)) (λ j. g (piece size (xs ++ ys) j))
    ≡ table (held size xs) (λ j. g (piece size xs j)) ++ table (held size ys) (λ j. g (piece size ys j))
pieces_append g size xs ys h e = pieces_cut g size (held size xs) xs ys h (omega (arith, mod-add-div (length xs) size))

pub candidates_append : (size bits : ℕ) (xs ys : List ℕ) → 0 < size → length xs % size ≡ 0
    → candidates size bits (xs ++ ys) ≡ candidates size bits xs ++ candidates size bits ys
unfolding candidates
candidates_append size bits xs ys h e = pieces_append (λ p. p % 2 ^ bits) size xs ys h e
