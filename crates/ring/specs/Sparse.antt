-- A sparse polynomial, given as positions with signs. Assumes nothing: these are definitions.
use Rattle.std.specs.Prelude.{◌≡◌, cond, ◌⊎◌, List, [], ◌∷◌, ℕ, ◌<◌, eqb, length, get_or, ℤ, pos, negsuc, ◌+ℤ◌, ◌*ℤ◌}
use Rattle.whole.specs.Below.{Below}
use Rattle.ring.specs.Product.{Poly, turn}

-- s · xᵖ
unfoldable pub term : ℕ → ℤ → Poly
term p s k = cond (eqb p k) s (pos 0)

-- the sum of the terms s · xᵖ, over the positions with their signs
unfoldable pub sparse : List ℕ → List ℤ → Poly
sparse [] ss k = pos 0
sparse (p ∷ ps) [] k = pos 0
sparse (p ∷ ps) (s ∷ ss) k = term p s k +ℤ sparse ps ss k

-- the same terms, each times f, turn by turn
unfoldable pub turns : ℕ → Poly → List ℕ → List ℤ → Poly
turns n f [] ss k = pos 0
turns n f (p ∷ ps) [] k = pos 0
turns n f (p ∷ ps) (s ∷ ss) k = s *ℤ turn n p f k +ℤ turns n f ps ss k

-- a sign: +1 or −1
abbrev pub Sign : ℤ → Type 0
Sign s = (s ≡ pos 1) ⊎ (s ≡ negsuc 0)

-- Positions below n, a sign +1 or −1 for each
pub record Signed (n : ℕ) (ps : List ℕ) (ss : List ℤ) : Type 0 where
  pub paired : length ss ≡ length ps
  pub inside : Below n ps
  pub signs : (i : ℕ) → i < length ss → Sign (get_or ss i (pos 0))
