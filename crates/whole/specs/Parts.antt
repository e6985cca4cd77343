-- Parts of a list: the m elements from a on, `take m (drop a xs)`, where the list is made of pieces, and the list where it is made of parts.
--     part_length    its length
--     part_lent      the part, as code lends it
--     part_at        its element k
--     part_first     a part of xs is the same part of xs ++ ys
--     part_second    a part of ys is a part of xs ++ ys, as much further on as xs is long
--     part_piece     the middle one of three pieces
--     part_last      the second one of two pieces
--     part_part      a part of a part
--     parts_join     a part and the part that follows it are one part
-- Assumes nothing.
use Rattle.std.specs.Prelude.{◌≡◌, refl, List, [], ◌∷◌, ◌++◌, ℕ, zero, suc, ◌+◌, ◌≤◌, ◌-◌, ◌<◌, length, take, drop, get_or}
use Rattle.std.proofs.Common.{sym, ap, ◌∙◌, le_of_eq, arith, length-take, length-drop, take_all, take-take, take-add, drop-drop, take_at, drop_at, get_or-take, get_or-drop}
use Rattle.std.proofs.Math.Nat.{add-sub_cancel_left}
use Rattle.std.proofs.lemmas.List.{take-append-le, drop-append-le}
use Rattle.std.proofs.Math.Seq.{drop-append-add}

module _ {A : Type 0} where
  pub part_length : (a m : ℕ) (xs : List A) → a + m ≤ length xs → length (take m (drop a xs)) ≡ m
  part_length a m xs h = simp (length-take, length-drop) (omega arith)

  -- as code lends it, from a to a + m
  pub part_lent : (a m : ℕ) (xs : List A) → take (a + m - a) (drop a xs) ≡ take m (drop a xs)
  part_lent a m xs = ap (λ (k : ℕ). take k (drop a xs)) (add-sub_cancel_left a m)

  pub part_at : (a m k : ℕ) (xs : List A) (d : A) → k < m → get_or (take m (drop a xs)) k d ≡ get_or xs (a + k) d
  part_at a m k xs d h = get_or-take m (drop a xs) k d h ∙ get_or-drop a xs k d

  pub part_first : (a m : ℕ) (xs ys : List A) → a + m ≤ length xs → take m (drop a (xs ++ ys)) ≡ take m (drop a xs)
  part_first a m xs ys h =
      rw (drop-append-le a xs ys (omega arith)) (take-append-le m (drop a xs) ys (omega (arith, length-drop a xs)))

  pub part_second : (n a m : ℕ) (xs ys : List A) → length xs ≡ n → take m (drop (n + a) (xs ++ ys)) ≡ take m (drop a ys)
  part_second n a m xs ys e = rw (← e) (ap (take m) (drop-append-add xs ys a))

  pub part_piece : (n m : ℕ) (xs ys zs : List A) → length xs ≡ n → length ys ≡ m → take m (drop n (xs ++ (ys ++ zs))) ≡ ys
  part_piece n m xs ys zs e f = rw (drop_at xs (ys ++ zs) n e) (take_at ys zs m f)

  pub part_last : (n m : ℕ) (xs ys : List A) → length xs ≡ n → length ys ≡ m → take m (drop n (xs ++ ys)) ≡ ys
  part_last n m xs ys e f = rw (drop_at xs ys n e) (take_all m ys (le_of_eq f))

  within : (b n m : ℕ) (xs : List A) → b + n ≤ m → take n (drop b (take m xs)) ≡ take n (drop b xs)
  within zero n m xs h = take-take n m xs (omega arith)
  within (suc b) n zero xs h = absurd (omega arith)
  within (suc b) n (suc m) [] h = refl
  within (suc b) n (suc m) (x ∷ xs) h = within b n m xs (omega arith)

  pub part_part : (a m b n : ℕ) (xs : List A) → b + n ≤ m → take n (drop b (take m (drop a xs))) ≡ take n (drop (a + b) xs)
  part_part a m b n xs h = within b n m (drop a xs) h ∙ ap (take n) (drop-drop b a xs)

  pub parts_join : (a m n : ℕ) (xs : List A) → take m (drop a xs) ++ take n (drop (a + m) xs) ≡ take (m + n) (drop a xs)
  parts_join a m n xs = rw (← drop-drop m a xs) (sym (take-add m n (drop a xs)))
