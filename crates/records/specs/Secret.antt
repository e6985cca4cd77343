-- The secret record: mark 2, s and e_1..e_k one signed byte each, seed_a, seed_y, g.
-- Assumes nothing: these are definitions.
use Rattle.std.specs.Prelude.{Bool, not, List, [], ◌∷◌, ◌++◌, ℕ, ◌+◌, ◌*◌, eqb, length}
use Rattle.whole.specs.Every.{every}
use Rattle.answers.specs.Tests.{Test, ◌or_else◌}
use Rattle.sets.specs.declared.Numbers.{Numbers}
use Rattle.records.specs.Layout.{mark, marked, stretch, polynomial, secret_bytes}
use Rattle.sets.specs.Limits.{seed_bytes, digest_bytes}

unfoldable pub secret_record : Numbers → List ℕ → List ℕ → List ℕ → List ℕ → List ℕ → List ℕ
secret_record set s e seed_a seed_y g = mark set 2 ++ (s ++ (e ++ (seed_a ++ (seed_y ++ g))))

-- the values of a record
unfoldable pub s_of : Numbers → List ℕ → List ℕ
s_of set secret = stretch 2 set.n secret

unfoldable pub all_e : Numbers → List ℕ → List ℕ
all_e set secret = stretch (2 + set.n) (set.k * set.n) secret

-- e_(i + 1), of e_1..e_k in a row
abbrev pub e_of : Numbers → List ℕ → ℕ → List ℕ
e_of set e i = polynomial set.n i e

unfoldable pub secret_seed_a : Numbers → List ℕ → List ℕ
secret_seed_a set secret = stretch (2 + set.n + set.k * set.n) seed_bytes secret

unfoldable pub secret_seed_y : Numbers → List ℕ → List ℕ
secret_seed_y set secret = stretch (2 + set.n + set.k * set.n + seed_bytes) seed_bytes secret

unfoldable pub secret_g : Numbers → List ℕ → List ℕ
secret_g set secret = stretch (2 + set.n + set.k * set.n + seed_bytes + seed_bytes) digest_bytes secret

-- no secret byte is −128
unfoldable pub in_byte_range : List ℕ → Bool
in_byte_range bytes = every (λ b. not (eqb b 128)) bytes

-- ---- the tests

-- s and e_1..e_k: no byte is −128
unfoldable pub byte_tests : List ℕ → List ℕ → List Test
byte_tests s e = (in_byte_range s or_else 5) ∷ (in_byte_range e or_else 5) ∷ []

-- a record by itself
unfoldable pub secret_tests : Numbers → List ℕ → List Test
secret_tests set secret =
    (eqb (length secret) (secret_bytes set) or_else 1)
    ∷ (marked set 2 secret or_else 2)
    ∷ byte_tests (s_of set secret) (all_e set secret)

-- reading a record into s, e, seed_a, seed_y and g, with the lengths of the outputs
unfoldable pub read_secret_tests : Numbers → List ℕ → ℕ → ℕ → ℕ → ℕ → ℕ → List Test
read_secret_tests set secret s_length e_length seed_a_length seed_y_length g_length =
    (eqb s_length set.n or_else 1)
    ∷ (eqb e_length (set.k * set.n) or_else 1)
    ∷ (eqb seed_a_length seed_bytes or_else 1)
    ∷ (eqb seed_y_length seed_bytes or_else 1)
    ∷ (eqb g_length digest_bytes or_else 1)
    ∷ secret_tests set secret

-- writing a record from s, e, seed_a, seed_y and g, with the output's length
unfoldable pub write_secret_tests : Numbers → List ℕ → List ℕ → List ℕ → List ℕ → List ℕ → ℕ → List Test
write_secret_tests set s e seed_a seed_y g secret_length =
    (eqb (length s) set.n or_else 1)
    ∷ (eqb (length e) (set.k * set.n) or_else 1)
    ∷ (eqb (length seed_a) seed_bytes or_else 1)
    ∷ (eqb (length seed_y) seed_bytes or_else 1)
    ∷ (eqb (length g) digest_bytes or_else 1)
    ∷ (eqb secret_length (secret_bytes set) or_else 1)
    ∷ byte_tests s e
