-- Polynomials with n whole coefficients, which multiply with xⁿ = −1. A polynomial is the function that gives its coefficients;
-- of a polynomial f only f 0, .., f (n − 1) count. Assumes nothing: these are definitions.
use Rattle.std.specs.Prelude.{cond, ℕ, ◌+◌, ◌-◌, leb, ℤ, neg_ℤ, ◌*ℤ◌}
use Rattle.whole.specs.Sum.{sum}

abbrev pub Poly : Type 0
Poly = ℕ → ℤ

-- coefficient k of xⁱ · g: what is moved past xⁿ⁻¹ comes back at the front with the other sign
unfoldable pub turn : ℕ → ℕ → Poly → Poly
turn n i g k = cond (leb i k) (g (k - i)) (neg_ℤ (g (n + k - i)))

-- coefficient k of f · g
unfoldable pub mul : ℕ → Poly → Poly → Poly
mul n f g k = sum n (λ i. f i *ℤ turn n i g k)
