-- Checking, Algorithm 3: z within B − S, then w_i = a_i z − t_i c, then H of the high parts against c'.
-- Assumes nothing: these are definitions.
use Rattle.std.specs.Prelude.{List, [], ◌∷◌, ◌++◌, ℕ, ◌*◌, eqb, leb, ℤ, ◌-ℤ◌, length}
use Rattle.whole.specs.Every.{every, same_bytes}
use Rattle.answers.specs.Tests.{Test, ◌or_else◌}
use Rattle.ring.specs.Product.{mul}
use Rattle.ring.specs.Lists.{naturals, integers, residues}
use Rattle.sets.specs.declared.Numbers.{Numbers}
use Rattle.sets.specs.Limits.{message_limit}
use Rattle.sampling.specs.Streams.{a_of, enc_of, challenge, message_digest, key_digest, highs_of}
use Rattle.records.specs.Layout.{marked, stretch, t_bytes, public_bytes, signature_bytes}
use Rattle.records.specs.Public.{t_of, all_t, seed_a_of, t_in_range}
use Rattle.signatures.specs.Signature.{z_of, challenge_of, z_in_range}
use Rattle.sampling.specs.Positions.{polynomial_of}
use Rattle.rounding.specs.Tests.{fits_byte}

-- w_(i + 1) = a_(i + 1) z − t_(i + 1) c, from 0 to q − 1
unfoldable pub check_w : Numbers → List ℕ → (ℕ → List ℕ) → List ℤ → List ℕ → ℕ → List ℕ
check_w set seed_a t z c' i =
    residues set.q set.n
    (λ j. mul set.n (naturals (a_of set seed_a i)) (integers z) j -ℤ mul set.n (naturals (t i)) (polynomial_of (enc_of set c')) j)

-- the high parts that a receiver computes
unfoldable pub check_highs : Numbers → List ℕ → (ℕ → List ℕ) → List ℤ → List ℕ → List ℤ
check_highs set seed_a t z c' = highs_of set (check_w set seed_a t z c')

-- g of a public record: the digest of its packed t_1..t_k
unfoldable pub public_g : Numbers → List ℕ → List ℕ
public_g set public = key_digest set (stretch 2 (set.k * t_bytes set) public)

-- ---- the tests

-- those of the inputs, the message by its length
unfoldable pub input_tests : Numbers → List ℕ → ℕ → List ℕ → List Test
input_tests set public message_length signature =
    (eqb (length public) (public_bytes set) or_else 1)
    ∷ (eqb (length signature) (signature_bytes set) or_else 1)
    ∷ (marked set 1 public or_else 2)
    ∷ (marked set 3 signature or_else 2)
    ∷ (leb message_length message_limit or_else 3)
    ∷ (t_in_range set (all_t set public) or_else 5)
    ∷ (z_in_range set (z_of set signature) or_else 9)
    ∷ []

-- those of the high parts of w_1..w_k, over them, G of the message, g and c'
unfoldable pub high_tests : Numbers → List ℤ → List ℕ → List ℕ → List ℕ → List Test
high_tests set parts digest g c' =
    (every fits_byte parts or_else 10)
    ∷ (same_bytes (challenge set parts digest g) c' or_else 11)
    ∷ []

-- the same over seed_a, t_1..t_k, g, G of the message, z and c'
unfoldable pub hash_tests : Numbers → List ℕ → (ℕ → List ℕ) → List ℕ → List ℕ → List ℤ → List ℕ → List Test
hash_tests set seed_a t g digest z c' = high_tests set (check_highs set seed_a t z c') digest g c'

-- the same over the two records and G of the message
unfoldable pub work_tests : Numbers → List ℕ → List ℕ → List ℕ → List Test
work_tests set public digest signature =
    hash_tests set (seed_a_of set public) (t_of set public) (public_g set public) digest (z_of set signature) (challenge_of set signature)

-- checking a message, by its length and G of it
unfoldable pub digest_tests : Numbers → List ℕ → ℕ → List ℕ → List ℕ → List Test
digest_tests set public message_length digest signature =
    input_tests set public message_length signature ++ work_tests set public digest signature

unfoldable pub check_tests : Numbers → List ℕ → List ℕ → List ℕ → List Test
check_tests set public message signature = digest_tests set public (length message) (message_digest set message) signature
