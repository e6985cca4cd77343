-- What the code asks of its arguments, as named records. They are conditions on lengths and sizes; no caller has to believe them,
-- each shows them.
-- Assumes nothing: these are definitions.
use Rattle.std.specs.Prelude.{◌≡◌, List, ℕ, ◌*◌, ℤ, length}
use Rattle.whole.specs.Below.{Below, Within}
use Rattle.sets.specs.declared.Numbers.{Numbers}
use Rattle.sets.specs.Good.{Good}
use Rattle.sampling.specs.Streams.{all_a}
use Rattle.sampling.specs.Asks.{Terms}
use Rattle.records.specs.Layout.{secret_bytes, signature_bytes}
use Rattle.records.specs.Secret.{secret_seed_a}

-- a set, and a secret record of the right length
pub record Whole (set : Numbers) (secret : List ℕ) : Type 0 where
  pub good : Good set
  pub long : length secret ≡ secret_bytes set

-- a set, and the places for a_1..a_k in a row
pub record DrawsRow (set : Numbers) (a : List ℕ) : Type 0 where
  pub good : Good set
  pub a_long : length a ≡ set.k * set.n

-- the same with the seed_a of a secret record
pub record DrawsKey (set : Numbers) (secret a : List ℕ) : Type 0 where
  pub whole : Whole set secret
  pub a_long : length a ≡ set.k * set.n

-- the k products v_1..v_k: a_1..a_k, y's residues, and the places for the products
pub record Multiplies (set : Numbers) (a yr v : List ℕ) : Type 0 where
  pub good : Good set
  pub a_long : length a ≡ set.k * set.n
  pub a_below : Below set.q a
  pub y_long : length yr ≡ set.n
  pub y_below : Below set.q yr
  pub v_long : length v ≡ set.k * set.n

-- the high parts of v_1..v_k
pub record Absorbs (set : Numbers) (v : List ℕ) : Type 0 where
  pub v_long : length v ≡ set.k * set.n
  pub v_below : Below set.q v

-- z: s, y, c and the place for z
pub record MakesZ (set : Numbers) (s : List ℕ) (y : List ℤ) (ps : List ℕ) (ss : List ℤ) (z : List ℤ) : Type 0 where
  pub good : Good set
  pub s_long : length s ≡ set.n
  pub y_long : length y ≡ set.n
  pub y_within : Within set.b y
  pub terms : Terms set ps ss
  pub z_long : length z ≡ set.n

-- the tests on one w: one e and one v, c and the place for e c
pub record TestsOneW (set : Numbers) (e v ps : List ℕ) (ss ec : List ℤ) : Type 0 where
  pub good : Good set
  pub e_long : length e ≡ set.n
  pub v_long : length v ≡ set.n
  pub v_below : Below set.q v
  pub terms : Terms set ps ss
  pub ec_long : length ec ≡ set.n

-- the tests on w_1..w_k: e_1..e_k, v_1..v_k, c and the place for one e_i c
pub record TestsW (set : Numbers) (e v ps : List ℕ) (ss ec : List ℤ) : Type 0 where
  pub good : Good set
  pub e_long : length e ≡ set.k * set.n
  pub v_long : length v ≡ set.k * set.n
  pub v_below : Below set.q v
  pub terms : Terms set ps ss
  pub ec_long : length ec ≡ set.n

-- what an attempt makes before c' is known: a_1..a_k, and the places for y, its residues and v_1..v_k
pub record Commits (set : Numbers) (a : List ℕ) (y : List ℤ) (yr v : List ℕ) : Type 0 where
  pub good : Good set
  pub a_long : length a ≡ set.k * set.n
  pub a_below : Below set.q a
  pub y_long : length y ≡ set.n
  pub yr_long : length yr ≡ set.n
  pub v_long : length v ≡ set.k * set.n

-- what an attempt does once c' is known: s, e_1..e_k, y, v_1..v_k, and the places for c and z
pub record Responds (set : Numbers) (s e : List ℕ) (y : List ℤ) (v ps : List ℕ) (ss z : List ℤ) : Type 0 where
  pub good : Good set
  pub s_long : length s ≡ set.n
  pub e_long : length e ≡ set.k * set.n
  pub y_long : length y ≡ set.n
  pub y_within : Within set.b y
  pub v_long : length v ≡ set.k * set.n
  pub v_below : Below set.q v
  pub ps_long : length ps ≡ set.h
  pub ss_long : length ss ≡ set.h
  pub z_long : length z ≡ set.n

-- the same with the s and e_1..e_k of a secret record
pub record RespondsKey (set : Numbers) (secret : List ℕ) (y : List ℤ) (v : List ℕ) (z : List ℤ) : Type 0 where
  pub whole : Whole set secret
  pub y_long : length y ≡ set.n
  pub y_within : Within set.b y
  pub v_long : length v ≡ set.k * set.n
  pub v_below : Below set.q v
  pub z_long : length z ≡ set.n

-- and the places for the signature record and for the bits of z
pub record Concludes (set : Numbers) (secret signature : List ℕ) (y : List ℤ) (bits v : List ℕ) (z : List ℤ) : Type 0 where
  pub responds : RespondsKey set secret y v z
  pub bits_long : length bits ≡ set.n
  pub signature_long : length signature ≡ signature_bytes set

-- every place that an attempt works in
pub record Places (set : Numbers) (y : List ℤ) (yr v : List ℕ) (z : List ℤ) : Type 0 where
  pub y_long : length y ≡ set.n
  pub yr_long : length yr ≡ set.n
  pub v_long : length v ≡ set.k * set.n
  pub z_long : length z ≡ set.n

-- an attempt: a secret record, its a_1..a_k, and the place for the signature record
pub record Attempts (set : Numbers) (secret a signature : List ℕ) : Type 0 where
  pub whole : Whole set secret
  pub a_is : a ≡ all_a set (secret_seed_a set secret)
  pub signature_long : length signature ≡ signature_bytes set
