-- Key making, Algorithm 1 with s, e_1..e_k, seed_a and seed_y lent: t_i = a_i s + e_i modulo q.
-- Assumes nothing: these are definitions.
use Rattle.std.specs.Prelude.{Bool, List, [], ◌∷◌, ◌++◌, ℕ, ◌*◌, eqb, ◌+ℤ◌, length}
use Rattle.whole.specs.Table.{joined}
use Rattle.whole.specs.Every.{each_below}
use Rattle.answers.specs.Tests.{Test, ◌or_else◌}
use Rattle.ring.specs.Product.{mul}
use Rattle.ring.specs.Lists.{naturals, signed_bytes, residues}
use Rattle.ring.specs.Largest.{sum_passes}
use Rattle.sets.specs.declared.Numbers.{Numbers}
use Rattle.sampling.specs.Streams.{a_of, key_digest}
use Rattle.records.specs.Layout.{public_bytes, secret_bytes}
use Rattle.sets.specs.Limits.{seed_bytes}
use Rattle.records.specs.Public.{packed_t, public_record}
use Rattle.records.specs.Secret.{secret_record, e_of, byte_tests}

-- a s + e, from 0 to q − 1
abbrev pub sum_of : Numbers → List ℕ → List ℕ → List ℕ → List ℕ
sum_of set a s e = residues set.q set.n (λ j. mul set.n (naturals a) (signed_bytes s) j +ℤ signed_bytes e j)

-- t_(i + 1)
unfoldable pub key_t : Numbers → List ℕ → List ℕ → List ℕ → ℕ → List ℕ
key_t set s e seed_a i = sum_of set (a_of set seed_a i) s (e_of set e i)

-- t_1..t_k in a row
unfoldable pub all_key_t : Numbers → List ℕ → List ℕ → List ℕ → List ℕ
all_key_t set s e seed_a = joined set.k (key_t set s e seed_a)

-- the two records
unfoldable pub public_of : Numbers → List ℕ → List ℕ → List ℕ → List ℕ
public_of set s e seed_a = public_record set (all_key_t set s e seed_a) seed_a

unfoldable pub secret_of : Numbers → List ℕ → List ℕ → List ℕ → List ℕ → List ℕ
secret_of set s e seed_a seed_y = secret_record set s e seed_a seed_y (key_digest set (packed_t set (all_key_t set s e seed_a)))

-- checkE passes for every e_i
unfoldable pub each_e_passes : Numbers → List ℕ → Bool
each_e_passes set e = each_below set.k (λ i. sum_passes set.h set.e (e_of set e i))

-- ---- the tests

-- those of s and e_1..e_k, which signing makes too
unfoldable pub secrets_tests : Numbers → List ℕ → List ℕ → List Test
secrets_tests set s e = byte_tests s e ++ ((sum_passes set.h set.s s or_else 6) ∷ (each_e_passes set e or_else 7) ∷ [])

unfoldable pub make_key_tests : Numbers → List ℕ → List ℕ → List ℕ → List ℕ → ℕ → ℕ → List Test
make_key_tests set s e seed_a seed_y public_length secret_length =
    (eqb (length s) set.n or_else 1)
    ∷ (eqb (length e) (set.k * set.n) or_else 1)
    ∷ (eqb (length seed_a) seed_bytes or_else 1)
    ∷ (eqb (length seed_y) seed_bytes or_else 1)
    ∷ (eqb public_length (public_bytes set) or_else 1)
    ∷ (eqb secret_length (secret_bytes set) or_else 1)
    ∷ secrets_tests set s e
