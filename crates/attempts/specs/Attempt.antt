-- One attempt of Algorithm 2, as a function of the set, the key, the message's digest, rand and the counter alone.
-- Assumes nothing: these are definitions.
use Rattle.std.specs.Prelude.{Bool, cond, ◌&&◌, List, ℕ, ℤ, pos, ◌+ℤ◌, ◌-ℤ◌}
use Rattle.whole.specs.Table.{table}
use Rattle.whole.specs.Every.{every, each_below}
use Rattle.rounding.specs.Tests.{low_passes, size_passes, fits_byte}
use Rattle.ring.specs.Product.{mul}
use Rattle.ring.specs.Lists.{naturals, integers, signed_bytes, residues}
use Rattle.sets.specs.declared.Numbers.{Numbers}
use Rattle.sampling.specs.Positions.{Drawn, polynomial_of}
use Rattle.sampling.specs.Streams.{a_of, y_of, challenge, enc_of, highs_of}
use Rattle.records.specs.Secret.{s_of, all_e, e_of, secret_seed_a, secret_g}
use Rattle.signatures.specs.Signature.{z_in_range}

-- what an attempt takes from the secret record
pub record Key : Type 0 where
  pub s : List ℕ
  pub e : List ℕ
  pub seed_a : List ℕ
  pub g : List ℕ

-- an attempt passes with z and c', or fails, or meets a high part that does not fit a signed byte
pub data Outcome : Type 0 where
  passes : List ℤ → List ℕ → Outcome
  fails : Outcome
  overflows : Outcome

-- v_(i + 1) = a_(i + 1) y, from 0 to q − 1
unfoldable pub v_of : Numbers → List ℕ → List ℤ → ℕ → List ℕ
v_of set seed_a y i = residues set.q set.n (mul set.n (naturals (a_of set seed_a i)) (integers y))

-- z = y + s c, not reduced
unfoldable pub z_from : Numbers → List ℕ → List ℤ → List Drawn → List ℤ
z_from set s y c = table set.n (λ j. integers y j +ℤ mul set.n (signed_bytes s) (polynomial_of c) j)

-- w_(i + 1) = v_(i + 1) − e_(i + 1) c, from 0 to q − 1
unfoldable pub w_of : Numbers → List ℕ → (ℕ → List ℕ) → List Drawn → ℕ → List ℕ
w_of set e v c i =
    residues set.q set.n (λ j. naturals (v i) j -ℤ mul set.n (signed_bytes (e_of set e i)) (polynomial_of c) j)

-- the two tests on every coefficient of w
unfoldable pub w_passes : Numbers → List ℕ → Bool
w_passes set w =
    every (λ x. low_passes set.q set.d set.e (pos x)) w && every (λ x. size_passes set.q set.e (pos x)) w

-- the tests of an attempt: z first, then every w_i
unfoldable pub attempt_passes : Numbers → List ℕ → List ℕ → List ℤ → (ℕ → List ℕ) → List Drawn → Bool
attempt_passes set s e y v c = z_in_range set (z_from set s y c) && each_below set.k (λ i. w_passes set (w_of set e v c i))

-- what follows once c' is known
unfoldable pub answered : Numbers → Key → List ℤ → (ℕ → List ℕ) → List ℕ → Outcome
answered set key y v c' =
    cond (attempt_passes set key.s key.e y v (enc_of set c')) (passes (z_from set key.s y (enc_of set c')) c') fails

-- what follows once y and v_1..v_k are known
unfoldable pub tried : Numbers → Key → List ℕ → List ℤ → (ℕ → List ℕ) → Outcome
tried set key digest y v =
    cond (every fits_byte (highs_of set v)) (answered set key y v (challenge set (highs_of set v) digest key.g)) overflows

-- attempt number `counter`
unfoldable pub attempt : Numbers → Key → List ℕ → List ℕ → ℕ → Outcome
attempt set key digest rand counter =
    tried set key digest (y_of set rand counter) (v_of set key.seed_a (y_of set rand counter))

-- the key that a secret record holds
unfoldable pub key_of : Numbers → List ℕ → Key
key_of set secret =
    record { s = s_of set secret; e = all_e set secret; seed_a = secret_seed_a set secret; g = secret_g set secret }
