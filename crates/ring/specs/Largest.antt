-- The sum of the h largest numbers of a list. It is defined as the code finds it: h places that start at 0; each number is
-- pushed in, at each place the larger stays and the smaller moves on, and what moves past the last place falls off.
-- The laws (`LargestLaws`) say that no h entries of the list sum to more, and that some h entries sum to it.
-- Assumes nothing: these are definitions.
use Rattle.std.specs.Prelude.{Bool, List, [], ◌∷◌, map, ℕ, suc, ◌+◌, ◌^◌, ◌≤◌, min, max, leb, length, replicate, nat_abs}
use Rattle.whole.specs.Twos.{signed}

-- x pushed into the places
unfoldable pub push : ℕ → List ℕ → List ℕ
push x [] = []
push x (p ∷ ps) = max x p ∷ push (min x p) ps

-- the h places when every number of xs has been pushed in, the last one first
unfoldable pub places : ℕ → List ℕ → List ℕ
places h [] = replicate h 0
places h (x ∷ xs) = push x (places h xs)

unfoldable pub added : List ℕ → ℕ
added [] = 0
added (x ∷ xs) = x + added xs

-- the sum of the h largest
abbrev pub largest : ℕ → List ℕ → ℕ
largest h xs = added (places h xs)

-- the absolute values of signed bytes
abbrev pub sizes : List ℕ → List ℕ
sizes bytes = map (λ (b : ℕ). nat_abs (signed 8 b)) bytes

-- checkS with the bound S, checkE with the bound E: the sum of the h largest absolute values is at most the bound
unfoldable pub sum_passes : ℕ → ℕ → List ℕ → Bool
sum_passes h bound bytes = leb (largest h (sizes bytes)) bound

-- few enough places for their sum to fit the machine's word, whatever signed bytes are pushed in
pub record Few (ps : List ℕ) : Type 0 where
  pub few : length ps ≤ 2 ^ 16

-- h entries of xs, each taken once, sum to s
pub data Choice : ℕ → List ℕ → ℕ → Type 0 where
  done : Choice 0 [] 0
  skip : {h s x : ℕ} {xs : List ℕ} → Choice h xs s → Choice h (x ∷ xs) s
  take : {h s x : ℕ} {xs : List ℕ} → Choice h xs s → Choice (suc h) (x ∷ xs) (x + s)
