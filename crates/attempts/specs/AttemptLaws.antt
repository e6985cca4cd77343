-- Laws of one attempt.
--     v_of_length, w_of_length, z_from_length    each polynomial has n coefficients
--     Passing, passing                        what an attempt that passes says
--     attempt_z, attempt_w                    the two halves of its tests
-- Assumes nothing.
use Rattle.std.specs.Prelude.{◌≡◌, refl, Bool, true, false, cond, List, ℕ, ℤ, length}
use Rattle.std.proofs.Common.{subst, ◌∙◌, arith}
use Rattle.whole.specs.TableLaws.{length_table}
use Rattle.whole.specs.Every.{every, each_below}
use Rattle.whole.specs.EveryLaws.{both_first, both_second}
use Rattle.rounding.specs.Tests.{fits_byte}
use Rattle.sets.specs.declared.Numbers.{Numbers}
use Rattle.sampling.specs.Positions.{Drawn}
use Rattle.sampling.specs.Streams.{y_of, enc_of, challenge, highs_of}
use Rattle.signatures.specs.Signature.{z_in_range}
use Rattle.attempts.specs.Attempt.{Key, passes, fails, overflows, v_of, z_from, w_of, w_passes, attempt_passes, answered, tried, attempt}

-- ---- lengths

pub v_of_length : (set : Numbers) (seed_a : List ℕ) (y : List ℤ) (i : ℕ) → length (v_of set seed_a y i) ≡ set.n
unfolding v_of
v_of_length set seed_a y i = length_table set.n _

pub w_of_length : (set : Numbers) (e : List ℕ) (v : ℕ → List ℕ) (c : List Drawn) (i : ℕ) → length (w_of set e v c i) ≡ set.n
unfolding w_of
w_of_length set e v c i = length_table set.n _

pub z_from_length : (set : Numbers) (s : List ℕ) (y : List ℤ) (c : List Drawn) → length (z_from set s y c) ≡ set.n
unfolding z_from
z_from_length set s y c = length_table set.n _

-- ---- what a passing attempt says

-- an attempt that passes: its high parts fit, c' is their hash, its tests pass, and z is y + s c
pub record Passing (set : Numbers) (key : Key) (digest rand : List ℕ) (counter : ℕ) (z : List ℤ) (c' : List ℕ) : Type 0 where
  pub fits : every fits_byte (highs_of set (v_of set key.seed_a (y_of set rand counter))) ≡ true
  pub hash : challenge set (highs_of set (v_of set key.seed_a (y_of set rand counter))) digest key.g ≡ c'
  pub tests : attempt_passes set key.s key.e (y_of set rand counter) (v_of set key.seed_a (y_of set rand counter)) (enc_of set c') ≡ true
  pub is : z_from set key.s (y_of set rand counter) (enc_of set c') ≡ z

inner : (set : Numbers) (key : Key) (digest rand : List ℕ) (counter : ℕ) (z : List ℤ) (c' d : List ℕ) (b : Bool)
    → every fits_byte (highs_of set (v_of set key.seed_a (y_of set rand counter))) ≡ true
    → challenge set (highs_of set (v_of set key.seed_a (y_of set rand counter))) digest key.g ≡ d
    → attempt_passes set key.s key.e (y_of set rand counter) (v_of set key.seed_a (y_of set rand counter)) (enc_of set d) ≡ b
    → cond b (passes (z_from set key.s (y_of set rand counter) (enc_of set d)) d) fails ≡ passes z c'
    → Passing set key digest rand counter z c'
inner set key digest rand counter z c' d true f h t e =
    let same : d ≡ c' = cc in
    let is : z_from set key.s (y_of set rand counter) (enc_of set d) ≡ z = cc in
    record {
      fits = f;
      hash = h ∙ same;
      tests = subst (λ (x : List ℕ). attempt_passes set key.s key.e (y_of set rand counter) (v_of set key.seed_a (y_of set rand counter)) (enc_of set x) ≡ true) same t;
      is = subst (λ (x : List ℕ). z_from set key.s (y_of set rand counter) (enc_of set x) ≡ z) same is;
    }
inner set key digest rand counter z c' d false f h t e = absurd (let x : ◌≡◌ {A = ℕ} 0 1 = cc in omega arith)

outer : (set : Numbers) (key : Key) (digest rand : List ℕ) (counter : ℕ) (z : List ℤ) (c' : List ℕ) (b : Bool)
    → every fits_byte (highs_of set (v_of set key.seed_a (y_of set rand counter))) ≡ b
    → cond b (answered set key (y_of set rand counter) (v_of set key.seed_a (y_of set rand counter)) (challenge set (highs_of set (v_of set key.seed_a (y_of set rand counter))) digest key.g)) overflows ≡ passes z c'
    → Passing set key digest rand counter z c'
unfolding answered
outer set key digest rand counter z c' true f e =
    inner set key digest rand counter z c' _ _ f refl refl e
outer set key digest rand counter z c' false f e = absurd (let x : ◌≡◌ {A = ℕ} 0 1 = cc in omega arith)

pub passing : (set : Numbers) (key : Key) (digest rand : List ℕ) (counter : ℕ) (z : List ℤ) (c' : List ℕ)
    → attempt set key digest rand counter ≡ passes z c' → Passing set key digest rand counter z c'
unfolding attempt tried
passing set key digest rand counter z c' e = outer set key digest rand counter z c' _ refl e

-- the two halves of an attempt's tests
pub attempt_z : (set : Numbers) (key : Key) (y : List ℤ) (v : ℕ → List ℕ) (c : List Drawn) → attempt_passes set key.s key.e y v c ≡ true → z_in_range set (z_from set key.s y c) ≡ true
unfolding attempt_passes
attempt_z set key y v c e = both_first (z_in_range set (z_from set key.s y c)) (each_below set.k (λ i. w_passes set (w_of set key.e v c i))) e

pub attempt_w : (set : Numbers) (key : Key) (y : List ℤ) (v : ℕ → List ℕ) (c : List Drawn) → attempt_passes set key.s key.e y v c ≡ true → each_below set.k (λ i. w_passes set (w_of set key.e v c i)) ≡ true
unfolding attempt_passes
attempt_w set key y v c e = both_second (z_in_range set (z_from set key.s y c)) (each_below set.k (λ i. w_passes set (w_of set key.e v c i))) e
