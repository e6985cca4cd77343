-- The signature record: mark 3, z at its width in two's complement, c'.
-- Assumes nothing: these are definitions.
use Rattle.std.specs.Prelude.{Bool, List, [], ◌∷◌, ◌++◌, map, ℕ, ◌+◌, ◌-◌, eqb, ℤ, length}
use Rattle.whole.specs.Every.{every}
use Rattle.answers.specs.Tests.{Test, ◌or_else◌}
use Rattle.whole.specs.Twos.{signed, twos}
use Rattle.rounding.specs.Tests.{z_passes}
use Rattle.packing.specs.Digits.{packed, unpacked}
use Rattle.sets.specs.declared.Numbers.{Numbers}
use Rattle.records.specs.Layout.{mark, marked, stretch, z_bytes, signature_bytes}
use Rattle.sets.specs.Limits.{seed_bytes}

unfoldable pub signature_record : Numbers → List ℤ → List ℕ → List ℕ
signature_record s z c' = mark s 3 ++ (packed s.z_bits (map (twos s.z_bits) z) ++ c')

-- the bits of each z of a record
unfoldable pub z_bits_of : Numbers → List ℕ → List ℕ
z_bits_of s signature = unpacked s.z_bits s.n (stretch 2 (z_bytes s) signature)

-- the values of a record
unfoldable pub z_of : Numbers → List ℕ → List ℤ
z_of s signature = map (signed s.z_bits) (unpacked s.z_bits s.n (stretch 2 (z_bytes s) signature))

unfoldable pub challenge_of : Numbers → List ℕ → List ℕ
challenge_of s signature = stretch (2 + z_bytes s) seed_bytes signature

-- every z is from −(B − S) to B − S
unfoldable pub z_in_range : Numbers → List ℤ → Bool
z_in_range s z = every (z_passes (s.b - s.s)) z

-- ---- the tests

-- a record by itself
unfoldable pub signature_tests : Numbers → List ℕ → List Test
signature_tests s signature =
    (eqb (length signature) (signature_bytes s) or_else 1)
    ∷ (marked s 3 signature or_else 2)
    ∷ (z_in_range s (z_of s signature) or_else 9)
    ∷ []

-- reading a record into z and c', with the lengths of the two outputs
unfoldable pub read_signature_tests : Numbers → List ℕ → ℕ → ℕ → List Test
read_signature_tests s signature z_length c_length =
    (eqb z_length s.n or_else 1) ∷ (eqb c_length seed_bytes or_else 1) ∷ signature_tests s signature

-- writing a record from z and c', with the output's length
unfoldable pub write_signature_tests : Numbers → List ℤ → List ℕ → ℕ → List Test
write_signature_tests s z c' signature_length =
    (eqb (length z) s.n or_else 1)
    ∷ (eqb (length c') seed_bytes or_else 1)
    ∷ (eqb signature_length (signature_bytes s) or_else 1)
    ∷ (z_in_range s z or_else 9)
    ∷ []
