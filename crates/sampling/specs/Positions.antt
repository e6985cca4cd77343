-- The candidate rule for positions with signs, over the candidates in the order of the stream. A candidate gets its position if that is
-- free. If not it is passed over as long as those behind it can fill every place that is left; once they cannot, it gets the free
-- position that comes next, counting up, with 0 after n − 1. The answer is in the order of drawing.
-- Assumes nothing: these are definitions, and one sum that they give.
use Rattle.std.specs.Prelude.{◌≡◌, refl, Bool, false, cond, not, ◌||◌, List, [], ◌∷◌, map, ℕ, zero, suc, ◌+◌, ◌/◌, ◌%◌, ◌^◌, ltb, eqb, ℤ, pos, negsuc, length}
use Rattle.whole.specs.Sum.{sum}
use Rattle.whole.specs.Table.{table, row}
use Rattle.ring.specs.Product.{Poly}
use Rattle.ring.specs.Sparse.{sparse, term}
use Rattle.sampling.specs.Candidates.{emit, held, piece}

-- a position drawn, with its sign
pub record Drawn : Type 0 where
  pub position : ℕ
  pub sign : ℤ

-- whether p is among the positions ps
unfoldable pub is_in : ℕ → List ℕ → Bool
is_in p [] = false
is_in p (x ∷ ps) = eqb p x || is_in p ps

-- p if it is free, else the next free position upward, from n − 1 on to 0: `steps` positions are looked at
unfoldable pub free : ℕ → ℕ → ℕ → List ℕ → ℕ
free n zero p ps = p
free n (suc steps) p ps = cond (is_in p ps) (free n steps ((p + 1) % n) ps) p

-- whether a candidate is taken, with `left` candidates after it and `need` positions still needed
abbrev pub takes_position : ℕ → ℕ → ℕ → List ℕ → Bool
takes_position need left p ps = not (is_in p ps) || ltb left need

-- the positions with signs taken of the candidates, where `need` are needed and those of ps are taken already
unfoldable pub positions : ℕ → ℕ → List ℕ → List Drawn → List Drawn
positions n need ps [] = []
positions n zero ps (c ∷ cs) = []
positions n (suc need) ps (c ∷ cs) =
    emit (takes_position (suc need) (length cs) c.position ps) (record { position = free n n c.position ps; sign = c.sign })
    (positions n
    (cond (takes_position (suc need) (length cs) c.position ps) need (suc need))
    (cond (takes_position (suc need) (length cs) c.position ps) (free n n c.position ps ∷ ps) ps)
    cs)

-- the sign that a candidate's third byte gives: −1 where its low bit is set, +1 where it is clear
abbrev pub sign_of : ℕ → ℤ
sign_of byte = cond (eqb (byte % 2) 1) (negsuc 0) (pos 1)

-- a candidate of 3 bytes, as one number: the low `bits` bits of the first two bytes are a position, the third gives the sign
abbrev pub drawn_of : ℕ → ℕ → Drawn
drawn_of bits p = record { position = p % 2 ^ bits; sign = sign_of (p / 65536) }

-- the candidates of a stream
unfoldable pub drawn_candidates : ℕ → List ℕ → List Drawn
drawn_candidates bits stream =
    table (held 3 stream) (λ j. drawn_of bits (piece 3 stream j))

-- the positions with signs of a stream's candidates
abbrev pub places_of : ℕ → ℕ → ℕ → List ℕ → List Drawn
places_of n bits need stream = positions n need [] (drawn_candidates bits stream)

-- ---- as two lists, and as the polynomial that they stand for

abbrev pub positions_of : List Drawn → List ℕ
positions_of c = map (λ (t : Drawn). t.position) c

abbrev pub signs_of : List Drawn → List ℤ
signs_of c = map (λ (t : Drawn). t.sign) c

-- the two lists are what was drawn
pub record AreDrawn (drawn : List Drawn) (places : List ℕ) (signs : List ℤ) : Type 0 where
  pub places_are : places ≡ positions_of drawn
  pub signs_are : signs ≡ signs_of drawn

abbrev pub polynomial_of : List Drawn → Poly
polynomial_of c = sparse (positions_of c) (signs_of c)

-- its coefficients of x⁰ to xⁿ⁻¹
unfoldable pub coefficients : ℕ → List Drawn → List ℤ
coefficients n c = table n (polynomial_of c)

-- document 01's sum 11: n = 8, h = 3, candidates 3+, 3−, 5+ give x³ − x⁴ + x⁵. It stands with the rule, so that a wrong count is
-- refused here.
pub sum_11 : coefficients 8 (positions 8 3 []
    (record { position = 3; sign = pos 1 } ∷ record { position = 3; sign = negsuc 0 } ∷ record { position = 5; sign = pos 1 } ∷ []))
    ≡ pos 0 ∷ pos 0 ∷ pos 0 ∷ pos 1 ∷ negsuc 0 ∷ pos 1 ∷ pos 0 ∷ pos 0 ∷ []
unfolding coefficients positions emit free is_in sparse term sum row
sum_11 = refl
