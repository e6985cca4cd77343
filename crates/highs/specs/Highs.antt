-- The high parts on the way to c': what was absorbed of them, one polynomial more, and c' of them.
-- Assumes nothing: these are definitions.
use Rattle.std.specs.Prelude.{◌≡◌, ◌&&◌, List, map, ℕ, ℤ}
use Rattle.whole.specs.Every.{every}
use Rattle.whole.specs.Twos.{twos}
use Rattle.rounding.specs.Tests.{fits_byte}
use Rattle.shake.specs.Sponge.{absorbed, squeezed}
use Rattle.sets.specs.declared.Numbers.{Numbers}
use Rattle.sets.specs.Limits.{seed_bytes}
use Rattle.sets.specs.Marks.{fresh}
use Rattle.sampling.specs.Streams.{challenge, high_parts}
use Rattle.highs.specs.declared.Highs.{Highs}

-- these have been absorbed, one signed byte each, and tested
pub record Held (set : Numbers) (parts : List ℤ) (r : Highs) : Type 0 where
  pub state_is : r.state ≡ absorbed (fresh set.digit 6) (map (twos 8) parts)
  pub fit_is : r.fit ≡ every fits_byte parts

-- those of one polynomial more
pub record Adds (set : Numbers) (before : Highs) (v : List ℕ) (r : Highs) : Type 0 where
  pub state_is : r.state ≡ absorbed before.state (map (twos 8) (high_parts set v))
  pub fit_is : r.fit ≡ (before.fit && every fits_byte (high_parts set v))

-- c' of them, of G of the message and of g
pub record Hashes (set : Numbers) (highs : Highs) (digest g c' : List ℕ) : Type 0 where
  pub bytes : c' ≡ squeezed seed_bytes (absorbed (absorbed highs.state digest) g)
  pub is : (parts : List ℤ) → Held set parts highs → c' ≡ challenge set parts digest g
