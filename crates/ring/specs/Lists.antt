-- Lists of numbers as polynomials, and the residues of a polynomial as a list. Assumes nothing: these are definitions.
use Rattle.std.specs.Prelude.{List, ℕ, get_or, ℤ, pos}
use Rattle.whole.specs.Residue.{residue}
use Rattle.whole.specs.Table.{table}
use Rattle.whole.specs.Twos.{signed}
use Rattle.ring.specs.Product.{Poly}

-- coefficients that are no less than 0, as residues are
abbrev pub naturals : List ℕ → Poly
naturals xs k = pos (get_or xs k 0)

-- signed coefficients
abbrev pub integers : List ℤ → Poly
integers zs k = get_or zs k (pos 0)

-- one signed byte a coefficient, as secrets are
abbrev pub signed_bytes : List ℕ → Poly
signed_bytes bytes k = signed 8 (get_or bytes k 0)

-- f modulo q: its n coefficients from 0 to q − 1
abbrev pub residues : ℕ → ℕ → Poly → List ℕ
residues q n f = table n (λ k. residue q (f k))
