-- What the code for a whole polynomial asks of its arguments, as named records. They are conditions on lengths and sizes.
-- Assumes nothing: these are definitions.
use Rattle.std.specs.Prelude.{List, ◌≡◌, ℕ, ◌^◌, ◌<◌, length}
use Rattle.whole.specs.Below.{Below}

-- residues w by q, a step 2^d and the place for the high parts: for `high_bytes`
pub record HighBytes (q d : ℕ) (w out : List ℕ) : Type 0 where
  -- the first four for the high part of each coefficient (`Rounds`)
  pub below : Below q w
  pub small : q < 2 ^ 31
  pub step : 0 < d
  pub fits : d < 31
  -- every high part has its place
  pub exact : length out ≡ length w

-- residues w by q, a step 2^d and a bound: for `all_low`
pub record LowTests (q d bound : ℕ) (w : List ℕ) : Type 0 where
  -- the first four for the low part of each coefficient (`Rounds`)
  pub below : Below q w
  pub small : q < 2 ^ 31
  pub step : 0 < d
  pub fits : d < 31
  -- a low part's size and the bound together fit the machine's word
  pub room : bound < 2 ^ 31

-- residues w by q and a bound: for `all_sized`
pub record SizeTests (q bound : ℕ) (w : List ℕ) : Type 0 where
  -- every coefficient is centred by q
  pub below : Below q w
  -- a coefficient's size and the bound together fit the machine's word
  pub small : q < 2 ^ 31
  pub room : bound < 2 ^ 31
