-- The public record: mark 1, t_1..t_k at their width, seed_a. Its values are t, the k polynomials in a row, and seed_a.
-- Assumes nothing: these are definitions.
use Rattle.std.specs.Prelude.{Bool, List, [], ◌∷◌, ◌++◌, ℕ, ◌+◌, ◌*◌, eqb, ltb, length}
use Rattle.whole.specs.Table.{joined}
use Rattle.whole.specs.Every.{every}
use Rattle.answers.specs.Tests.{Test, ◌or_else◌}
use Rattle.packing.specs.Digits.{packed, unpacked}
use Rattle.sets.specs.declared.Numbers.{Numbers}
use Rattle.records.specs.Layout.{mark, marked, stretch, polynomial, t_bytes, public_bytes}
use Rattle.sets.specs.Limits.{seed_bytes}

-- t_1..t_k packed, each in its own stretch
unfoldable pub packed_t : Numbers → List ℕ → List ℕ
packed_t s t = joined s.k (λ i. packed s.t_bits (polynomial s.n i t))

-- the record of t and seed_a
unfoldable pub public_record : Numbers → List ℕ → List ℕ → List ℕ
public_record s t seed_a = mark s 1 ++ (packed_t s t ++ seed_a)

-- t_(i + 1) of a record: the stretch of t_bytes from 2 + t_bytes · i on
unfoldable pub t_of : Numbers → List ℕ → ℕ → List ℕ
t_of s public i = unpacked s.t_bits s.n (stretch (2 + t_bytes s * i) (t_bytes s) public)

unfoldable pub all_t : Numbers → List ℕ → List ℕ
all_t s public = joined s.k (t_of s public)

unfoldable pub seed_a_of : Numbers → List ℕ → List ℕ
seed_a_of s public = stretch (2 + s.k * t_bytes s) seed_bytes public

-- every coefficient of t is from 0 to q − 1
unfoldable pub t_in_range : Numbers → List ℕ → Bool
t_in_range s t = every (λ v. ltb v s.q) t

-- ---- the tests

-- a record by itself
unfoldable pub public_tests : Numbers → List ℕ → List Test
public_tests s public =
    (eqb (length public) (public_bytes s) or_else 1)
    ∷ (marked s 1 public or_else 2)
    ∷ (t_in_range s (all_t s public) or_else 5)
    ∷ []

-- reading a record into t and seed_a, with the lengths of the two outputs
unfoldable pub read_public_tests : Numbers → List ℕ → ℕ → ℕ → List Test
read_public_tests s public t_length seed_length =
    (eqb t_length (s.k * s.n) or_else 1) ∷ (eqb seed_length seed_bytes or_else 1) ∷ public_tests s public

-- writing a record from t and seed_a, with the output's length
unfoldable pub write_public_tests : Numbers → List ℕ → List ℕ → ℕ → List Test
write_public_tests s t seed_a public_length =
    (eqb (length t) (s.k * s.n) or_else 1)
    ∷ (eqb (length seed_a) seed_bytes or_else 1)
    ∷ (eqb public_length (public_bytes s) or_else 1)
    ∷ (t_in_range s t or_else 5)
    ∷ []
