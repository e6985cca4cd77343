-- What the records share: their marks, their lengths in a set, and the stretches that they are made of.
-- Assumes nothing: these are definitions.
use Rattle.std.specs.Prelude.{Bool, ◌&&◌, List, [], ◌∷◌, ℕ, ◌+◌, ◌*◌, eqb, get_or, take, drop}
use Rattle.packing.specs.Digits.{bytes_for}
use Rattle.sets.specs.declared.Numbers.{Numbers}
use Rattle.sets.specs.Limits.{seed_bytes, digest_bytes}

-- the mark of record j: in set I 51 11 to 51 13 are those of the public, the secret and the signature record, 51 15 is the envelope's
abbrev pub mark : Numbers → ℕ → List ℕ
mark s j = 0x51 ∷ (16 * s.digit + j) ∷ []

-- whether a record begins with the mark of record j
unfoldable pub marked : Numbers → ℕ → List ℕ → Bool
marked s j bytes = eqb (get_or bytes 0 0) 0x51 && eqb (get_or bytes 1 0) (16 * s.digit + j)

-- `size` bytes from `start` on
abbrev pub stretch : {A : Type 0} → ℕ → ℕ → List A → List A
stretch start size xs = take size (drop start xs)

-- polynomial i, from 0 on, of polynomials of n coefficients in a row
abbrev pub polynomial : {A : Type 0} → ℕ → ℕ → List A → List A
polynomial n i xs = stretch (n * i) n xs

-- ---- lengths

-- one packed t_i, and packed z
abbrev pub t_bytes : Numbers → ℕ
t_bytes s = bytes_for s.t_bits s.n

abbrev pub z_bytes : Numbers → ℕ
z_bytes s = bytes_for s.z_bits s.n

abbrev pub public_bytes : Numbers → ℕ
public_bytes s = 2 + (s.k * t_bytes s + seed_bytes)

abbrev pub secret_bytes : Numbers → ℕ
secret_bytes s = 2 + (s.n + (s.k * s.n + (seed_bytes + (seed_bytes + digest_bytes))))

abbrev pub signature_bytes : Numbers → ℕ
signature_bytes s = 2 + (z_bytes s + seed_bytes)
