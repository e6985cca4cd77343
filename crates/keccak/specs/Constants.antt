-- The round constants: FIPS 202, Algorithm 5, and Algorithm 6, steps 2 and 3, for ℓ = 6.
-- Assumes nothing.
use Rattle.std.specs.Prelude.{List, [], ◌∷◌, ℕ, zero, suc, ◌+◌, ◌-◌, ◌*◌, ◌%◌, ◌^◌, get_or, set, take}
use Rattle.std.specs.Int.Bits.{bit_xor}

-- R[i] = R[i] ⊕ R[8]
abbrev pub flip : List ℕ → ℕ → List ℕ
flip R i = set R i (bit_xor (get_or R i 0) (get_or R 8 0))

-- Algorithm 5, step 3: R = 0 ‖ R; R[0], R[4], R[5] and R[6] each ⊕ R[8]; R = Trunc₈[R]
abbrev pub turn : List ℕ → List ℕ
turn R = take 8 (flip (flip (flip (flip (0 ∷ R) 0) 4) 5) 6)

-- R = 10000000, turned i times
abbrev pub register : ℕ → List ℕ
register zero = 1 ∷ 0 ∷ 0 ∷ 0 ∷ 0 ∷ 0 ∷ 0 ∷ 0 ∷ []
register (suc i) = turn (register i)

-- rc(t): R[0] after t mod 255 turns
unfoldable pub rc : ℕ → ℕ
rc t = get_or (register (t % 255)) 0 0

-- RC with its bits RC[2 ^ j - 1] = rc(j + 7 i) set for j below n, and 0 elsewhere
abbrev pub constant_bits : ℕ → ℕ → ℕ
constant_bits zero i = 0
constant_bits (suc j) i = constant_bits j i + rc (j + 7 * i) * 2 ^ (2 ^ j - 1)

-- RC of round i: j goes from 0 to 6
unfoldable pub round_constant : ℕ → ℕ
round_constant i = constant_bits 7 i
