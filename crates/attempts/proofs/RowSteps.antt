-- a_1..a_k are drawn one after another into a row. Assumes nothing.
use mathlib.Core.Path.{◌≡◌, ◌∙◌}
use mathlib.Core.List.{List, ◌++◌}
use Prim.Native.Nat.{ℕ, ◌+◌, ◌*◌, ◌-◌, ◌≤◌, ◌<◌}
use native.Mathlib.Omega.{arith}
use lib.ListN.{length, take, drop}
use Rattle.whole.specs.TableLaws.{joined_parts}
use Rattle.sets.specs.declared.Numbers.{Numbers}
use Rattle.sampling.specs.declared.drawn.DrawA.{DrawA}
use Rattle.sampling.specs.Promises.{StartedA, AfterA}
use Rattle.sampling.specs.DrawALaws.{AtA, at_first, at_written, at_next}
use Rattle.sampling.specs.Streams.{all_a, a_of}
use Rattle.sampling.proofs.DrawnLengths.{all_a_length, a_of_length}
use Rattle.sets.specs.Limits.{seed_bytes}
use Rattle.records.specs.Secret.{secret_seed_a}
use Rattle.attempts.specs.Asks.{DrawsRow}
use Rattle.whole.specs.RowFill.{Filling, filling_none, filling_more, filling_all}

-- a_1..a_i are drawn
pub record Drawing (set : Numbers) (seed_a old a : List ℕ) (stream : DrawA) (i : ℕ) : Type 0 where
  pub filling : Filling set.n set.k (a_of set seed_a) old a i
  pub at : AtA set seed_a i stream

module _ {set : Numbers} (seed_a : List ℕ) {old : List ℕ} (m : DrawsRow set old) where
  each : (i : ℕ) → i < set.k → length (a_of set seed_a i) ≡ set.n
  each i l = a_of_length set m.good seed_a i l

  pub drawing_none : {stream : DrawA} → StartedA set seed_a stream → Drawing set seed_a old old stream 0
  drawing_none s = record { filling = filling_none m.a_long each; at = at_first s }

  module _ {a : List ℕ} {stream : DrawA} {i : ℕ} (h : Drawing set seed_a old a stream i) where
    pub drawing_all : set.k ≤ i → a ≡ all_a set seed_a
    unfolding a_of
    drawing_all l = filling_all m.a_long each h.filling l ∙ joined_parts set.k set.n (all_a set seed_a) (all_a_length set m.good seed_a)

    module _ (l : i < set.k) where
      pub drawing_more : (new : List ℕ) {after : DrawA} → AfterA set stream new after
          → Drawing set seed_a old (take (set.n * i) a ++ (new ++ drop (set.n * i + set.n - set.n * i) (drop (set.n * i) a))) after (i + 1)
      drawing_more new d =
          record {
            filling = filling_more m.a_long each h.filling l new (at_written h.at d);
            at = at_next h.at l d;
          }

-- of the secret record's seed_a
pub key_row : (set : Numbers) (secret : List ℕ) {at end : ℕ} → at ≡ 2 + set.n + set.k * set.n → end ≡ 2 + set.n + set.k * set.n + seed_bytes
    → {a : List ℕ} → a ≡ all_a set (take (end - at) (drop at secret)) → a ≡ all_a set (secret_seed_a set secret)
unfolding secret_seed_a
key_row set secret {at} {end} d f e = e ∙ rw (size, d)
  where
    size : end - at ≡ seed_bytes
    size = omega arith
