-- The library's equality of two lists of bytes is `same_bytes`. Assumes nothing.
use Rattle.std.proofs.Common.{◌≡◌, refl, ap, ◌&&◌, List, [], ◌∷◌, ℕ, eqb}
use Rattle.std.specs.Cmp.Lexicographic.{pointwise}
use Rattle.whole.specs.Every.{same_bytes}

pub same_is : (xs ys : List ℕ) → pointwise eqb xs ys ≡ same_bytes xs ys
unfolding same_bytes
same_is [] [] = refl
same_is [] (y ∷ ys) = refl
same_is (x ∷ xs) [] = refl
same_is (x ∷ xs) (y ∷ ys) = ap (λ b. eqb x y && b) (same_is xs ys)
