-- What the code asks of its arguments. Assumes nothing: these are definitions.
use Rattle.std.specs.Prelude.{◌≡◌, List, ℕ, ◌+◌, ◌*◌, ◌^◌, ◌≤◌, ◌<◌, min, ℤ, length}
use Rattle.ring.specs.Sparse.{Signed}
use Rattle.sets.specs.declared.Numbers.{Numbers}
use Rattle.sets.specs.Good.{Good}
use Rattle.sampling.specs.declared.drawn.DrawA.{DrawA}
use Rattle.sampling.specs.Candidates.{held}
use Rattle.sampling.specs.DrawA.{ValidA}

-- ---- a stretch of a stream, with `later` candidates after it, whose number fits a word

-- candidates of 1 to 4 bytes, a candidate less the range is below it, and there are places in the output for all that is needed of
-- them, or for all of the stretch
pub record ValuesStretch (size bits range later need : ℕ) (stretch : List ℕ) (places at : ℕ) : Type 0 where
  pub some : 0 < size
  pub few : size ≤ 4
  pub narrow : bits ≤ 32
  pub once : 2 ^ bits ≤ 2 * range
  pub fits : held size stretch + later < 2 ^ 64
  pub room : at + min need (held size stretch) ≤ places

-- a value of at most 32 bits, less b: it fits 32 bits with its sign, and a candidate of so many bits less 2b + 1 is at most 2b
pub record Less (bits b : ℕ) : Type 0 where
  pub narrow : bits ≤ 32
  pub small : b < 2 ^ 31
  pub once : 2 ^ bits ≤ 2 * (2 * b + 1)

-- candidates of 3 bytes, and a place within the output
pub record LessStretch (bits b later : ℕ) (stretch : List ℕ) (places at : ℕ) : Type 0 where
  pub less : Less bits b
  pub fits : held 3 stretch + later < 2 ^ 64
  pub within : at ≤ places

-- positions below n of so many bits, each of which fits two bytes, and as many places for signs
pub record Placing (n bits places signs : ℕ) : Type 0 where
  pub power : n ≡ 2 ^ bits
  pub fits : bits ≤ 16
  pub paired : signs ≡ places

-- candidates of 3 bytes for positions, and a place within the outputs
pub record PositionsStretch (n bits later : ℕ) (stretch : List ℕ) (places signs at : ℕ) : Type 0 where
  pub placing : Placing n bits places signs
  pub fits : held 3 stretch + later < 2 ^ 64
  pub within : at ≤ places

-- ---- what is drawn and hashed from the sponge

-- a good set, and an output of so many bytes
pub record Digest (s : Numbers) (bytes places : ℕ) : Type 0 where
  pub good : Good s
  pub long : places ≡ bytes

-- a good set, and an output of n places
pub record DrawY (s : Numbers) (places : ℕ) : Type 0 where
  pub good : Good s
  pub long : places ≡ s.n

-- a good set, and outputs of h places
pub record DrawEnc (s : Numbers) (places signs : ℕ) : Type 0 where
  pub good : Good s
  pub long : places ≡ s.h
  pub paired : signs ≡ s.h

-- positions below n of so many bits, no more than there are candidates
pub record PlacesDrawn (n bits places signs : ℕ) : Type 0 where
  pub placing : Placing n bits places signs
  pub few : places ≤ 256

-- a good set, n values still needed at least, and an output of n places
pub record NextA (s : Numbers) (d : DrawA) (places : ℕ) : Type 0 where
  pub good : Good s
  pub valid : ValidA d
  pub needed : s.n ≤ d.need
  pub long : places ≡ s.n

-- ---- c, as the sparse product takes it

-- c, as h positions below n with their signs
pub record Terms (set : Numbers) (ps : List ℕ) (ss : List ℤ) : Type 0 where
  pub signed : Signed set.n ps ss
  pub few : length ps ≡ set.h
