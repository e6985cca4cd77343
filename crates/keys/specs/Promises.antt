-- What key making promises, in any set: the number that comes back, and what both records hold. And what its steps promise.
-- Assumes nothing: these are definitions.
use Rattle.std.specs.Prelude.{◌≡◌, List, ◌++◌, ℕ, ◌+◌, ◌*◌, length, take, drop}
use Rattle.answers.specs.Tests.{Answered, Output}
use Rattle.packing.specs.Digits.{packed}
use Rattle.sets.specs.declared.Numbers.{Numbers}
use Rattle.sampling.specs.declared.drawn.DrawA.{DrawA}
use Rattle.sampling.specs.DrawA.{values_left}
use Rattle.sampling.specs.Promises.{AfterA}
use Rattle.records.specs.Layout.{t_bytes}
use Rattle.records.specs.Public.{packed_t}
use Rattle.keys.specs.Key.{sum_of, all_key_t, public_of, secret_of, make_key_tests}

pub record MakesKey (set : Numbers) (s e seed_a seed_y old_public newPublic old_secret newSecret : List ℕ) (number : ℕ) : Type 0 where
  pub answered : Answered (make_key_tests set s e seed_a seed_y (length old_public) (length old_secret)) number
  pub public : Output (make_key_tests set s e seed_a seed_y (length old_public) (length old_secret)) (public_of set s e seed_a) old_public newPublic
  pub secret : Output (make_key_tests set s e seed_a seed_y (length old_public) (length old_secret)) (secret_of set s e seed_a seed_y) old_secret newSecret

-- ---- the steps

-- one t more: a is the next of the stream
pub record OneMore (set : Numbers) (before : DrawA) (s e t : List ℕ) (r : DrawA) : Type 0 where
  pub t_is : t ≡ sum_of set (take set.n (values_left set before)) s e
  pub drawn : AfterA set before (take set.n (values_left set before)) r

-- it stands packed in the stretch of t_(i + 1), and what stands before and after it is as it was
pub record PutsOne (set : Numbers) (before : DrawA) (s e : List ℕ) (i : ℕ) (old new : List ℕ) (r : DrawA) : Type 0 where
  pub put :
      new
      ≡ take (2 + t_bytes set * i) old
      ++ (packed set.t_bits (sum_of set (take set.n (values_left set before)) s e) ++ drop (2 + t_bytes set * i + t_bytes set) old)
  pub drawn : AfterA set before (take set.n (values_left set before)) r

-- t_1..t_k stand packed in a row; the mark before them and what follows them are as they were
pub record PutsT (set : Numbers) (s e seed_a old new : List ℕ) : Type 0 where
  pub is : new ≡ take 2 old ++ (packed_t set (all_key_t set s e seed_a) ++ drop (2 + set.k * t_bytes set) old)
