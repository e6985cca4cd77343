-- What the functions of the records ask of their caller, as named records. Assumes nothing: these are definitions.
use Rattle.std.specs.Prelude.{◌≡◌, List, ℕ, ◌+◌, ◌*◌, ◌≤◌, ◌<◌, length}
use Rattle.whole.specs.Below.{Below}
use Rattle.sets.specs.declared.Numbers.{Numbers}
use Rattle.sets.specs.Good.{Good}
use Rattle.sets.specs.Limits.{seed_bytes, digest_bytes}
use Rattle.records.specs.Layout.{public_bytes, secret_bytes}

-- ---- pieces

-- what `copy_at` asks: every byte has a place from `at` on
pub record CopiesAt (from to : List ℕ) (at : ℕ) : Type 0 where
  pub room : at + length from ≤ length to

-- what `copy_out` asks: there are as many bytes from `at` on as are wanted
pub record CopiesOut (from : List ℕ) (at : ℕ) (to : List ℕ) : Type 0 where
  pub enough : at + length to ≤ length from

-- what `write_mark` asks: the second byte of the mark is a byte, and both have a place
pub record Marks (s : Numbers) (j : ℕ) (out : List ℕ) : Type 0 where
  pub fits : 16 * s.digit + j < 256
  pub room : 2 ≤ length out

-- ---- the public record

-- what `t_start` asks: one of t_1..t_k, or the place after them
pub record StartsT (s : Numbers) (i : ℕ) : Type 0 where
  pub good : Good s
  pub near : i ≤ s.k

-- what `unpack_t` asks: a record of the right length, one of its t_1..t_k, and a place for one polynomial
pub record ReadsT (s : Numbers) (public : List ℕ) (i : ℕ) (out : List ℕ) : Type 0 where
  pub good : Good s
  pub long : length public ≡ public_bytes s
  pub inside : i < s.k
  pub room : length out ≡ s.n

-- what `pack_t` asks: one polynomial that fits its width, and a record of the right length
pub record PacksT (s : Numbers) (t : List ℕ) (i : ℕ) (public : List ℕ) : Type 0 where
  pub good : Good s
  pub polynomial : length t ≡ s.n
  pub below : Below s.q t
  pub inside : i < s.k
  pub long : length public ≡ public_bytes s

-- what the scan of t_1..t_k asks: a record of the right length, and scratch of one polynomial
pub record ScansT (s : Numbers) (public scratch : List ℕ) : Type 0 where
  pub good : Good s
  pub long : length public ≡ public_bytes s
  pub room : length scratch ≡ s.n

-- what `t_passes` asks: a record of the right length
pub record LongPublic (s : Numbers) (public : List ℕ) : Type 0 where
  pub long : length public ≡ public_bytes s

-- what `unpack_all` asks: a record of the right length, and a place for t_1..t_k
pub record ReadsAllT (s : Numbers) (public t : List ℕ) : Type 0 where
  pub good : Good s
  pub long : length public ≡ public_bytes s
  pub room : length t ≡ s.k * s.n

-- what `pack_all` asks: t_1..t_k that fit their width, and a record of the right length
pub record PacksAllT (s : Numbers) (t public : List ℕ) : Type 0 where
  pub good : Good s
  pub polynomials : length t ≡ s.k * s.n
  pub below : Below s.q t
  pub long : length public ≡ public_bytes s

-- what writing a record from tested values asks
pub record PutsPublic (s : Numbers) (t seed_a public : List ℕ) : Type 0 where
  pub good : Good s
  pub polynomials : length t ≡ s.k * s.n
  pub below : Below s.q t
  pub seed : length seed_a ≡ seed_bytes
  pub long : length public ≡ public_bytes s

-- what reading a record of the right length asks of its outputs
pub record TakesPublic (s : Numbers) (public t seed_a : List ℕ) : Type 0 where
  pub good : Good s
  pub long : length public ≡ public_bytes s
  pub polynomials : length t ≡ s.k * s.n
  pub seed : length seed_a ≡ seed_bytes

-- ---- the secret record

-- the lengths of a record's values
pub record SecretLengths (set : Numbers) (s e seed_a seed_y g : List ℕ) : Type 0 where
  pub s_long : length s ≡ set.n
  pub e_long : length e ≡ set.k * set.n
  pub seed_a_long : length seed_a ≡ seed_bytes
  pub seed_y_long : length seed_y ≡ seed_bytes
  pub g_long : length g ≡ digest_bytes

-- what writing a record from tested values asks, and reading one into its outputs
pub record SecretPlaces (set : Numbers) (secret s e seed_a seed_y g : List ℕ) : Type 0 where
  pub good : Good set
  pub long : length secret ≡ secret_bytes set
  pub lengths : SecretLengths set s e seed_a seed_y g

-- the same for the seeds and g alone
pub record TailPlaces (set : Numbers) (secret seed_a seed_y g : List ℕ) : Type 0 where
  pub good : Good set
  pub long : length secret ≡ secret_bytes set
  pub seed_a_long : length seed_a ≡ seed_bytes
  pub seed_y_long : length seed_y ≡ seed_bytes
  pub g_long : length g ≡ digest_bytes
