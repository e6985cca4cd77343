-- t_1..t_k of a key: how many coefficients they have, and that each is from 0 to q − 1.
-- Assumes nothing.
use Rattle.std.specs.Prelude.{◌≡◌, List, ℕ, ◌*◌, length}
use Rattle.whole.specs.Below.{Below}
use Rattle.whole.specs.BelowLaws.{below_joined}
use Rattle.whole.specs.TableLaws.{joined_length}
use Rattle.ring.specs.ListsLaws.{length_residues, residues_below}
use Rattle.sets.specs.declared.Numbers.{Numbers}
use Rattle.sets.specs.Good.{Good}
use Rattle.sets.specs.GoodLaws.{q_some}
use Rattle.keys.specs.Key.{key_t, all_key_t}

module _ (set : Numbers) (s e seed_a : List ℕ) where
  pub key_t_length : (i : ℕ) → length (key_t set s e seed_a i) ≡ set.n
  unfolding key_t
  key_t_length i = length_residues set.q set.n _

  pub all_key_t_length : length (all_key_t set s e seed_a) ≡ set.k * set.n
  unfolding all_key_t
  all_key_t_length = joined_length set.k set.n (key_t set s e seed_a) (λ i l. key_t_length i)

  pub all_key_t_below : Good set → Below set.q (all_key_t set s e seed_a)
  unfolding all_key_t key_t
  all_key_t_below good = below_joined set.q set.k (key_t set s e seed_a) (λ i l. residues_below set.q set.n _ (q_some good))
