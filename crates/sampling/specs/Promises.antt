-- What the code promises of its answers and outputs. Assumes nothing: these are definitions.
use Rattle.std.specs.Prelude.{◌≡◌, List, ℕ, ◌+◌, ◌*◌, ◌-◌, ◌<◌, ℤ, length, take, drop}
use Rattle.whole.specs.Below.{Below}
use Rattle.answers.specs.Tests.{Answered, Output}
use Rattle.shake.specs.declared.Sponge.{Sponge}
use Rattle.shake.specs.Sponge.{absorbed, squeezed}
use Rattle.sets.specs.declared.Numbers.{Numbers}
use Rattle.sets.specs.Limits.{digest_bytes}
use Rattle.sets.specs.Marks.{fresh}
use Rattle.sampling.specs.declared.drawn.DrawA.{DrawA}
use Rattle.sampling.specs.Positions.{positions_of, signs_of}
use Rattle.sampling.specs.Streams.{all_a, message_digest}
use Rattle.sampling.specs.Lent.{tests_a, lent_a, tests_y, lent_y, tests_enc, lent_enc}
use Rattle.sampling.specs.DrawA.{values_left, ValidA}

-- r is the next position above p, from n − 1 on to 0
pub record Upward (n p r : ℕ) : Type 0 where
  pub around : p + 1 ≡ n → r ≡ 0
  pub one : p + 1 < n → r ≡ p + 1

-- ---- over a lent stream: r is the number that comes back, and the outputs hold what its tests let through

pub record TakesA (set : Numbers) (stream old new : List ℕ) (r : ℕ) : Type 0 where
  pub answered : Answered (tests_a stream (length old)) r
  pub values : Output (tests_a stream (length old)) (lent_a set stream (length old)) old new

pub record TakesY (set : Numbers) (stream : List ℕ) (old new : List ℤ) (r : ℕ) : Type 0 where
  pub answered : Answered (tests_y stream (length old)) r
  pub values : Output (tests_y stream (length old)) (lent_y set stream (length old)) old new

pub record TakesPositions (set : Numbers) (stream places : List ℕ) (marks : List ℤ) (places' : List ℕ) (marks' : List ℤ) (r : ℕ) : Type 0 where
  pub answered : Answered (tests_enc set stream (length places) (length marks)) r
  pub positions : Output (tests_enc set stream (length places) (length marks)) (positions_of (lent_enc set stream (length places))) places places'
  pub signs : Output (tests_enc set stream (length places) (length marks)) (signs_of (lent_enc set stream (length places))) marks marks'

-- ---- G of a message

-- what is squeezed from a state; it is G of the message where the state has absorbed the mark of stream 4 and the message
pub record ClosesMessage (set : Numbers) (state : Sponge) (out : List ℕ) : Type 0 where
  pub bytes : out ≡ squeezed digest_bytes state
  pub is : (message : List ℕ) → Below 256 message → state ≡ absorbed (fresh set.digit 4) message → out ≡ message_digest set message

-- ---- a_1..a_k, one at a time

-- the stream gives all values of a_1..a_k
pub record StartedA (s : Numbers) (seed_a : List ℕ) (r : DrawA) : Type 0 where
  pub all : values_left s r ≡ all_a s seed_a
  pub valid : ValidA r
  pub need_is : r.need ≡ s.k * s.n

-- the first n of the values that were left are written, and the others are left
pub record AfterA (s : Numbers) (d : DrawA) (out : List ℕ) (r : DrawA) : Type 0 where
  pub written : out ≡ take s.n (values_left s d)
  pub rest : values_left s r ≡ drop s.n (values_left s d)
  pub valid : ValidA r
  pub need_is : r.need ≡ d.need - s.n
