-- What the parts of an attempt, and an attempt, promise.
-- Assumes nothing: these are definitions.
use Rattle.std.specs.Prelude.{◌≡◌, Bool, List, ℕ, ℤ, length}
use Rattle.whole.specs.Table.{joined}
use Rattle.sets.specs.declared.Numbers.{Numbers}
use Rattle.sets.specs.Limits.{seed_bytes}
use Rattle.sampling.specs.Streams.{y_of, enc_of, challenge, highs_of}
use Rattle.records.specs.Layout.{polynomial}
use Rattle.records.specs.Secret.{secret_g}
use Rattle.signatures.specs.Signature.{signature_record}
use Rattle.highs.specs.declared.Highs.{Highs}
use Rattle.highs.specs.Highs.{Held}
use Rattle.attempts.specs.declared.Tried.{Tried}
use Rattle.attempts.specs.declared.Tried.TheVariants.{Passes, Fails, Overflows}
use Rattle.attempts.specs.Attempt.{Outcome, passes, fails, overflows, z_from, attempt_passes, answered, key_of}
use Rattle.attempts.specs.Steps.{v_row}

-- y, v_1..v_k and their high parts, of a_1..a_k, rand and the counter
pub record Committed (set : Numbers) (a rand : List ℕ) (counter : ℕ) (y : List ℤ) (v : List ℕ) (highs : Highs) : Type 0 where
  pub y_is : y ≡ y_of set rand counter
  pub v_is : v ≡ joined set.k (v_row set a (y_of set rand counter))
  pub held : Held set (highs_of set (v_row set a (y_of set rand counter))) highs

-- c', where the high parts were absorbed
pub record Challenged (set : Numbers) (highs : Highs) (digest secret c' : List ℕ) : Type 0 where
  pub long : length c' ≡ seed_bytes
  pub is : (parts : List ℤ) → Held set parts highs → c' ≡ challenge set parts digest (secret_g set secret)

-- z, and whether the tests pass
pub record Responded (set : Numbers) (s e c' : List ℕ) (y : List ℤ) (v : List ℕ) (z : List ℤ) (passed : Bool) : Type 0 where
  pub z_is : z ≡ z_from set s y (enc_of set c')
  pub passed_is : passed ≡ attempt_passes set s e y (λ i. polynomial set.n i v) (enc_of set c')

-- ---- an attempt

abbrev pub tried_of : Outcome → Tried
tried_of (passes z c') = Passes
tried_of fails = Fails
tried_of overflows = Overflows

abbrev pub tried_signature : Numbers → Outcome → List ℕ → List ℕ
tried_signature set (passes z c') old = signature_record set z c'
tried_signature set fails old = old
tried_signature set overflows old = old

-- the answer and the signature record of an attempt with this outcome
pub record Tries (set : Numbers) (o : Outcome) (old new : List ℕ) (r : Tried) : Type 0 where
  pub answer : r ≡ tried_of o
  pub signature : new ≡ tried_signature set o old

-- what follows once c' is known, where the high parts were absorbed
pub record Concluded (set : Numbers) (highs : Highs) (digest secret : List ℕ) (y : List ℤ) (v old new : List ℕ) (r : Tried) : Type 0 where
  pub is : (parts : List ℤ) → Held set parts highs
      → Tries set (answered set (key_of set secret) y (λ i. polynomial set.n i v) (challenge set parts digest (secret_g set secret))) old new r
