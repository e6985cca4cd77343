-- What the steps of key making ask of their arguments, as named records: a good set, lengths, residues below q. No caller has to
-- believe them, each shows them.
-- Assumes nothing: these are definitions.
use Rattle.std.specs.Prelude.{List, ◌≡◌, ℕ, ◌*◌, ◌≤◌, ◌<◌, length}
use Rattle.sets.specs.declared.Numbers.{Numbers}
use Rattle.sets.specs.Good.{Good}
use Rattle.sampling.specs.declared.drawn.DrawA.{DrawA}
use Rattle.sampling.specs.DrawA.{ValidA}
use Rattle.sampling.specs.Residues.{Residues}
use Rattle.records.specs.Layout.{public_bytes, secret_bytes}
use Rattle.sets.specs.Limits.{seed_bytes}

-- what the tests of s and e_1..e_k ask: the length of e
pub record LongE (set : Numbers) (e : List ℕ) : Type 0 where
  pub good : Good set
  pub e_long : length e ≡ set.k * set.n

-- what `sum_of` asks: a modulo q, s and e as one polynomial of signed bytes each, and places for s modulo q and for t
pub record ForT (set : Numbers) (a s e sr t : List ℕ) : Type 0 where
  pub good : Good set
  pub a_is : Residues set a
  pub s_long : length s ≡ set.n
  pub e_long : length e ≡ set.n
  pub sr_long : length sr ≡ set.n
  pub t_long : length t ≡ set.n

-- places for a_i, for s modulo q and for t_i
pub record Places (set : Numbers) (a sr t : List ℕ) : Type 0 where
  pub a_long : length a ≡ set.n
  pub sr_long : length sr ≡ set.n
  pub t_long : length t ≡ set.n

-- what one t more asks: s and e as one polynomial of signed bytes each, and a stream that still has an a
pub record ForNext (set : Numbers) (draw : DrawA) (s e : List ℕ) : Type 0 where
  pub good : Good set
  pub valid : ValidA draw
  pub needed : set.n ≤ draw.need
  pub s_long : length s ≡ set.n
  pub e_long : length e ≡ set.n

-- and to write it: the stretch of t_(i + 1) in a public record of the right length
pub record ForOne (set : Numbers) (draw : DrawA) (s e : List ℕ) (i : ℕ) (public : List ℕ) : Type 0 where
  pub for_next : ForNext set draw s e
  pub inside : i < set.k
  pub public_long : length public ≡ public_bytes set

-- what writing t_1..t_k asks: s, e_1..e_k in a row, and a public record of the right length
pub record ForPut (set : Numbers) (s e public : List ℕ) : Type 0 where
  pub s_long : length s ≡ set.n
  pub e_long : length e ≡ set.k * set.n
  pub public_long : length public ≡ public_bytes set

-- what writing the public record asks
pub record ForPublic (set : Numbers) (s e seed_a public : List ℕ) : Type 0 where
  pub for_put : ForPut set s e public
  pub seed_a_long : length seed_a ≡ seed_bytes

-- what writing the secret record asks: the lengths, with the public record's
pub record ForSecret (set : Numbers) (s e seed_a seed_y public secret : List ℕ) : Type 0 where
  pub good : Good set
  pub s_long : length s ≡ set.n
  pub e_long : length e ≡ set.k * set.n
  pub seed_a_long : length seed_a ≡ seed_bytes
  pub seed_y_long : length seed_y ≡ seed_bytes
  pub public_long : length public ≡ public_bytes set
  pub secret_long : length secret ≡ secret_bytes set
