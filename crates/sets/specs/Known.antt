-- The sets that there are. Assumes nothing.
use Rattle.std.specs.Prelude.{◌≡◌, ◌*◌}
use Rattle.std.proofs.Common.{ap}
use Rattle.sets.specs.declared.Numbers.{Numbers}
use Rattle.sets.specs.Good.{Good}
use Rattle.sets.specs.SetI.{set_i, good_i}

pub data Known : Numbers → Type 0 where
  known_i : {set : Numbers} → set ≡ set_i → Known set

-- it has one proof at most, so it can stand in a type
pub known_prop : (set : Numbers) → ((a b : Numbers) → IsProp (a ≡ b)) → IsProp (Known set)
known_prop set same (known_i e) (known_i f) = ap known_i (same set set_i e f)

pub known_good : {set : Numbers} → Known set → Good set
known_good (known_i e) = good_i e

-- where a function chooses by the digit: it is set I's, with polynomials of 1,024 coefficients and rows of 4,096, and there is no other
pub digit_i : {set : Numbers} → Known set → set.digit ≡ 1 → set ≡ set_i
digit_i (known_i e) d = e

pub n_i : {set : Numbers} → Known set → set.digit ≡ 1 → set.n ≡ 1024
n_i (known_i e) d = ap (λ (s : Numbers). s.n) e

pub kn_i : {set : Numbers} → Known set → set.digit ≡ 1 → set.k * set.n ≡ 4096
kn_i (known_i e) d = ap (λ (s : Numbers). s.k * s.n) e

pub no_other : {set : Numbers} → Known set → (set.digit ≡ 1 → ⊥) → ⊥
no_other (known_i e) h = h (ap (λ (s : Numbers). s.digit) e)
