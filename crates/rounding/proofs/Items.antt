-- What the tests on w ask of its coefficients, one by one, and what `all` of a test says of the list.
--     low_item, size_item     each coefficient is as the tests on w ask it
--     every_is                the library's test of a whole list is `every`
-- Assumes nothing.
use Rattle.std.proofs.Common.{◌≡◌, refl, ap, Bool, List, [], ◌∷◌, ◌&&◌, ℕ, ◌<◌, ◌^◌, length, get_or, arith}
use Rattle.std.specs.List.{list_all}
use Rattle.std.proofs.lemmas.List.{get_or_default}
use Rattle.whole.specs.Below.{Below}
use Rattle.whole.specs.Every.{every}
use Rattle.rounding.specs.Asks.{LowTests, SizeTests}
use Rattle.rounding.specs.Tests.{Rounds}

pub every_is : {A : Type 0} (p : A → Bool) (xs : List A) → list_all p xs ≡ every p xs
unfolding every
every_is p [] = refl
every_is p (x ∷ xs) = ap (λ b. p x && b) (every_is p xs)

item : {q k x : ℕ} {w : List ℕ} → Below q w → k < length w → x ≡ get_or w k x → x < q
item {q} {k} {x} {w} b l e = omega (arith, b.at k l, get_or_default w k x 0 l)

pub low_item : {q d bound k x : ℕ} {w : List ℕ} → LowTests q d bound w → k < length w → x ≡ get_or w k x → Rounds q d x × (bound < 2 ^ 31)
low_item r l e = (record { residue = item r.below l e; small = r.small; step = r.step; fits = r.fits }, r.room)

pub size_item : {q bound k x : ℕ} {w : List ℕ} → SizeTests q bound w → k < length w → x ≡ get_or w k x → (x < q × (q < 2 ^ 31)) × (bound < 2 ^ 31)
size_item r l e = ((item r.below l e, r.small), r.room)
