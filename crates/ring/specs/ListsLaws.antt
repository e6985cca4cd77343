-- Laws of lists as polynomials, and of the residues of a polynomial. Assumes nothing.
use Rattle.std.specs.Prelude.{◌≡◌, ℕ, ◌<◌, length}
use Rattle.whole.specs.Residue.{residue, Same}
use Rattle.whole.specs.ResidueLaws.{residue_lt, residue_same, same_refl, same_sym}
use Rattle.whole.specs.TableLaws.{length_table, get_or_table}
use Rattle.whole.specs.Below.{Below}
use Rattle.whole.specs.BelowLaws.{below_table}
use Rattle.ring.specs.Product.{Poly, mul}
use Rattle.ring.specs.ProductLaws.{mul_same}
use Rattle.ring.specs.Lists.{naturals, residues}

pub length_residues : (q n : ℕ) (f : Poly) → length (residues q n f) ≡ n
length_residues q n f = length_table n (λ k. residue q (f k))

pub residues_below : (q n : ℕ) (f : Poly) → 0 < q → Below q (residues q n f)
residues_below q n f h = below_table q n (λ k. residue q (f k)) (λ k l. residue_lt q (f k) h)

-- a residue in place of a coefficient is congruent to it
pub residues_at : (q n : ℕ) (f : Poly) (k : ℕ) → 0 < q → k < n → Same q (naturals (residues q n f) k) (f k)
residues_at q n f k h l = rw (get_or_table n k (λ j. residue q (f j)) 0 l) (same_sym (residue_same q (f k) h))

-- a product by residues is congruent to the product
pub mul_residues : (q n : ℕ) (f g : Poly) (k : ℕ) → 0 < q → k < n → Same q (mul n f (naturals (residues q n g)) k) (mul n f g k)
mul_residues q n f g k h l =
    mul_same q n f f (naturals (residues q n g)) g k l (λ j m. same_refl q (f j)) (λ j m. residues_at q n g j h m)
