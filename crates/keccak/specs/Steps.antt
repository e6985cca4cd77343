-- The step mappings θ, ρ, π, χ and ι, the round, and the permutation Keccak-f[1600]: FIPS 202, sections 3.2 to 3.4.
-- Assumes nothing.
use Rattle.std.specs.Prelude.{List, ℕ, zero, suc, ◌+◌, ◌*◌, ◌%◌, set}
use Rattle.std.specs.Int.Bits.{bit_xor, bit_and}
use Rattle.keccak.specs.Constants.{round_constant}
use Rattle.keccak.specs.Offsets.{offset}
use Rattle.keccak.specs.State.{lane, lanes, rotl, complement}

-- Algorithm 1, step 1: C[x] = A[x, 0] ⊕ A[x, 1] ⊕ A[x, 2] ⊕ A[x, 3] ⊕ A[x, 4]
abbrev pub theta_c : List ℕ → ℕ → ℕ
theta_c A x = bit_xor (bit_xor (bit_xor (bit_xor (lane A x 0) (lane A x 1)) (lane A x 2)) (lane A x 3)) (lane A x 4)

-- step 2: D[x, z] = C[(x - 1) mod 5, z] ⊕ C[(x + 1) mod 5, (z - 1) mod w]
abbrev pub theta_d : List ℕ → ℕ → ℕ
theta_d A x = bit_xor (theta_c A ((x + 4) % 5)) (rotl 1 (theta_c A ((x + 1) % 5)))

-- step 3: A'[x, y] = A[x, y] ⊕ D[x]
unfoldable pub theta : List ℕ → List ℕ
theta A = lanes (λ x y. bit_xor (lane A x y) (theta_d A x))

-- Algorithm 2: A'[x, y, z] = A[x, y, (z - the offset of (x, y)) mod w]
unfoldable pub rho : List ℕ → List ℕ
rho A = lanes (λ x y. rotl (offset x y) (lane A x y))

-- Algorithm 3: A'[x, y] = A[(x + 3y) mod 5, x]
unfoldable pub pi : List ℕ → List ℕ
pi A = lanes (λ x y. lane A ((x + 3 * y) % 5) x)

-- Algorithm 4: A'[x, y] = A[x, y] ⊕ ((A[(x + 1) mod 5, y] ⊕ 1) · A[(x + 2) mod 5, y])
unfoldable pub chi : List ℕ → List ℕ
chi A = lanes (λ x y. bit_xor (lane A x y) (bit_and (complement (lane A ((x + 1) % 5) y)) (lane A ((x + 2) % 5) y)))

-- Algorithm 6, steps 1 and 4: A'[0, 0] = A[0, 0] ⊕ RC, and the other lanes are those of A
abbrev pub add_constant : List ℕ → ℕ → List ℕ
add_constant A RC = set A 0 (bit_xor (lane A 0 0) RC)

-- Algorithm 6: ι(A, i)
abbrev pub iota : List ℕ → ℕ → List ℕ
iota A i = add_constant A (round_constant i)

-- section 3.3: Rnd(A, i) = ι(χ(π(ρ(θ(A)))), i)
unfoldable pub round : List ℕ → ℕ → List ℕ
round A i = iota (chi (pi (rho (theta A)))) i

-- Algorithm 7: A = Rnd(A, i) for i from 0 to n - 1
unfoldable pub rounds : ℕ → List ℕ → List ℕ
rounds zero A = A
rounds (suc n) A = round (rounds n A) n

-- section 3.4: Keccak-f[1600], whose rounds are 12 + 2ℓ = 24
unfoldable pub keccak_f : List ℕ → List ℕ
keccak_f A = rounds 24 A
