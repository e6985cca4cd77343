-- The two records of a key as they are written: what each piece asks, and that together they are `public_of` and `secret_of`.
-- Assumes nothing.
use mathlib.Core.Path.{◌≡◌, ap, ◌∙◌}
use mathlib.Core.List.{List, ◌++◌}
use Prim.Native.Nat.{ℕ, ◌+◌, ◌*◌, ◌-◌}
use native.Mathlib.Omega.{arith}
use lib.ListN.{length, take, drop}
use Rattle.sets.specs.declared.Numbers.{Numbers}
use Rattle.sets.specs.Known.{Known, known_good}
use Rattle.sampling.specs.Streams.{key_digest}
use Rattle.records.specs.Asks.{PutsPublic}
use Rattle.records.specs.Layout.{mark, stretch, t_bytes}
use Rattle.records.specs.PublicLaws.{public_packed}
use Rattle.records.specs.Secret.{secret_record}
use Rattle.records.proofs.PublicSteps.{put_is}
use Rattle.keys.specs.Asks.{ForPublic}
use Rattle.keys.specs.Key.{all_key_t, public_of, secret_of}
use Rattle.keys.specs.KeyLaws.{all_key_t_length, all_key_t_below}
use Rattle.keys.specs.Promises.{PutsT}

-- ---- the public record

module _ {set : Numbers} {s e seed_a old : List ℕ} (known : Known set) (asked : ForPublic set s e seed_a old) where
  pub public_is : {marks packs new : List ℕ} {at : ℕ} → marks ≡ mark set 1 ++ drop 2 old → PutsT set s e seed_a marks packs
      → at ≡ 2 + set.k * t_bytes set → new ≡ take at packs ++ (seed_a ++ drop (at + length seed_a) packs) → new ≡ public_of set s e seed_a
  unfolding public_of
  public_is marks_are packs_are at_is copied = put_is puts marks_are packs_are.is at_is copied
    where
      puts : PutsPublic set (all_key_t set s e seed_a) seed_a old
      puts =
          record {
            good = known_good known;
            polynomials = all_key_t_length set s e seed_a;
            below = all_key_t_below set s e seed_a (known_good known);
            seed = asked.seed_a_long;
            long = asked.for_put.public_long;
          }

-- ---- the secret record

-- g of the packed t_1..t_k where they stand
pub g_placed : (set : Numbers) (s e seed_a seed_y public : List ℕ) {g new : List ℕ} {end : ℕ} → end ≡ 2 + set.k * t_bytes set
    → g ≡ key_digest set (take (end - 2) (drop 2 public)) → new ≡ secret_record set s e seed_a seed_y g
    → new ≡ secret_record set s e seed_a seed_y (key_digest set (stretch 2 (set.k * t_bytes set) public))
g_placed set s e seed_a seed_y public {end = end} end_is g_is written =
    written
    ∙ ap (secret_record set s e seed_a seed_y) (g_is ∙ ap (λ (m : ℕ). key_digest set (take m (drop 2 public))) size)
  where
    size : end - 2 ≡ set.k * t_bytes set
    size = omega arith

-- g of the public record that was written is the key's
pub secret_is : (set : Numbers) (s e seed_a seed_y : List ℕ) {public new : List ℕ} → public ≡ public_of set s e seed_a
    → new ≡ secret_record set s e seed_a seed_y (key_digest set (stretch 2 (set.k * t_bytes set) public)) → new ≡ secret_of set s e seed_a seed_y
unfolding public_of secret_of
secret_is set s e seed_a seed_y public_is written =
    written
    ∙ ap (λ (l : List ℕ). secret_record set s e seed_a seed_y (key_digest set l))
    (ap (stretch 2 (set.k * t_bytes set)) public_is ∙ public_packed set (all_key_t set s e seed_a) seed_a (all_key_t_length set s e seed_a))
