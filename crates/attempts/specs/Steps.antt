-- What the steps of an attempt compute, over what the code holds: e_1..e_k and v_1..v_k each stand in one list, and c is a
-- polynomial.
-- Assumes nothing: these are definitions.
use Rattle.std.specs.Prelude.{List, ℕ, ℤ, ◌+ℤ◌, ◌-ℤ◌}
use Rattle.whole.specs.Table.{table}
use Rattle.ring.specs.Product.{Poly, mul}
use Rattle.ring.specs.Lists.{naturals, integers, signed_bytes, residues}
use Rattle.sets.specs.declared.Numbers.{Numbers}
use Rattle.records.specs.Layout.{polynomial}
use Rattle.records.specs.Secret.{e_of}

-- a_(i + 1) y modulo q, of a_1..a_k and of y's residues
unfoldable pub product_of : Numbers → List ℕ → List ℕ → ℕ → List ℕ
product_of set a yr i = residues set.q set.n (mul set.n (naturals (polynomial set.n i a)) (naturals yr))

-- and of y
unfoldable pub v_row : Numbers → List ℕ → List ℤ → ℕ → List ℕ
v_row set a y i = residues set.q set.n (mul set.n (naturals (polynomial set.n i a)) (integers y))

-- y + s c, not reduced
unfoldable pub z_with : Numbers → List ℕ → List ℤ → Poly → List ℤ
z_with set s y c = table set.n (λ j. integers y j +ℤ mul set.n (signed_bytes s) c j)

-- v − e c modulo q, for one polynomial v and one e
unfoldable pub w_one : Numbers → List ℕ → List ℕ → Poly → List ℕ
w_one set e v c = residues set.q set.n (λ j. naturals v j -ℤ mul set.n (signed_bytes e) c j)

-- v_(i + 1) − e_(i + 1) c modulo q
abbrev pub w_with : Numbers → List ℕ → List ℕ → Poly → ℕ → List ℕ
w_with set e v c i = w_one set (e_of set e i) (polynomial set.n i v) c
