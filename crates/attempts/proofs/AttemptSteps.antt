-- What follows once c' is known, and the attempt's outcome. Assumes nothing.
use mathlib.Core.Path.{◌≡◌, refl, sym, ap, ◌∙◌}
use mathlib.Core.Bool.{Bool, true, false, cond, ◌&&◌}
use mathlib.Core.List.{List}
use Prim.Native.Nat.{ℕ, ◌+◌, ◌*◌, ◌-◌}
use native.Mathlib.Omega.{arith}
use lib.IntN.{ℤ}
use lib.ListN.{length, take, drop}
use Rattle.whole.specs.Every.{each_below}
use Rattle.whole.specs.EveryLaws.{not_first, both_first, each_below_ext}
use Rattle.ring.specs.Sparse.{sparse}
use Rattle.sets.specs.declared.Numbers.{Numbers}
use Rattle.sampling.specs.Positions.{polynomial_of, AreDrawn}
use Rattle.sampling.specs.Streams.{a_of, y_of, enc_of, challenge, highs_of}
use Rattle.sampling.specs.StreamsLaws.{all_a_below}
use Rattle.sampling.proofs.DrawnLengths.{all_a_length, enc_terms, y_of_length}
use Rattle.records.specs.Layout.{polynomial, secret_bytes}
use Rattle.sets.specs.Limits.{seed_bytes, digest_bytes}
use Rattle.records.specs.Secret.{s_of, all_e, secret_seed_a, secret_g}
use Rattle.signatures.specs.Signature.{z_in_range, signature_record}
use Rattle.signatures.specs.Asks.{WritesChecked}
use Rattle.highs.specs.declared.Highs.{Highs}
use Rattle.highs.specs.Highs.{Held, Hashes}
use Rattle.highs.specs.HighsLaws.{hashes_long}
use Rattle.attempts.specs.declared.Tried.{Tried}
use Rattle.attempts.specs.declared.Tried.TheVariants.{Passes, Fails, Overflows}
use Rattle.attempts.specs.Attempt.{Outcome, passes, fails, overflows, v_of, z_from, w_of, w_passes, attempt_passes, answered, tried, attempt, key_of}
use Rattle.attempts.specs.Steps.{v_row, z_with, w_one, w_with}
use Rattle.attempts.specs.Promises.{Committed, Challenged, Responded, Concluded, Tries, tried_of, tried_signature}
use Rattle.attempts.specs.Asks.{Whole, MakesZ, TestsW, Commits, Responds, RespondsKey, Concludes, Places, Attempts}
use Rattle.records.specs.SecretLaws.{s_lent, e_lent}
use Rattle.attempts.proofs.ProductSteps.{y_of_within, v_all_below, v_all_length, v_parts}

-- ---- c'

pub challenged : {set : Numbers} {secret : List ℕ} → Whole set secret → {at end : ℕ} → at ≡ 2 + set.n + set.k * set.n + seed_bytes + seed_bytes → end ≡ secret_bytes set
    → {highs : Highs} {digest c' : List ℕ} → Hashes set highs digest (take (end - at) (drop at secret)) c' → Challenged set highs digest secret c'
unfolding secret_g
challenged {set} {secret} w {at} {end} a b h = record { long = hashes_long h; is = λ parts p. h.is parts p ∙ rw (size, a) }
  where
    size : end - at ≡ digest_bytes
    size = omega arith

-- ---- once c' is known

module _ {set : Numbers} {s e v ps₀ : List ℕ} {y ss₀ z₀ : List ℤ} (r : Responds set s e y v ps₀ ss₀ z₀) where
  module _ (c' : List ℕ) {ps : List ℕ} {ss : List ℤ} (d : AreDrawn (enc_of set c') ps ss) where
    pub respond_makes : MakesZ set s y ps ss z₀
    respond_makes =
        record {
          good = r.good;
          s_long = r.s_long;
          y_long = r.y_long;
          y_within = r.y_within;
          terms = enc_terms set r.good c' d;
          z_long = r.z_long;
        }

    pub respond_tests : TestsW set e v ps ss y
    respond_tests =
        record {
          good = r.good;
          e_long = r.e_long;
          v_long = r.v_long;
          v_below = r.v_below;
          terms = enc_terms set r.good c' d;
          ec_long = r.y_long;
        }

    respond_z : {z : List ℤ} → z ≡ z_with set s y (sparse ps ss) → z ≡ z_from set s y (enc_of set c')
    unfolding z_with z_from
    respond_z f = f ∙ rw (d.places_are, d.signs_are)

    module _ {z : List ℤ} (f : z ≡ z_with set s y (sparse ps ss)) {inside : Bool} (g : inside ≡ z_in_range set z) where
      z_test : z_in_range set (z_from set s y (enc_of set c')) ≡ inside
      z_test = ap (z_in_range set) (sym (respond_z f)) ∙ sym g

      pub respond_outside : inside ≡ false → Responded set s e c' y v z false
      unfolding attempt_passes
      respond_outside h =
          record {
            z_is = respond_z f;
            passed_is = sym (not_first (each_below set.k (λ i. w_passes set (w_of set e (λ j. polynomial set.n j v) (enc_of set c') i))) (z_test ∙ h));
          }

      pub respond_inside : {passed : Bool} → inside ≡ true → passed ≡ each_below set.k (λ i. w_passes set (w_with set e v (sparse ps ss) i))
          → Responded set s e c' y v z passed
      unfolding attempt_passes w_of w_one
      respond_inside h w = record { z_is = respond_z f; passed_is = w ∙ rw (d.places_are, d.signs_are, z_test ∙ h) }

-- with the s and e_1..e_k of the secret record
module _ {set : Numbers} {secret v : List ℕ} {y z₀ : List ℤ} (r : RespondsKey set secret y v z₀) {at end : ℕ} (a : at ≡ 2 + set.n) (b : end ≡ 2 + set.n + set.k * set.n) where
  pub key_responded : {c' : List ℕ} {z : List ℤ} {passed : Bool}
      → Responded set (take (at - 2) (drop 2 secret)) (take (end - at) (drop at secret)) c' y v z passed
      → Responded set (s_of set secret) (all_e set secret) c' y v z passed
  key_responded t = rw (s_lent set secret a b, e_lent set secret a b) at t

-- ---- where the tests pass, the signature record is written

tries : {set : Numbers} {o : Outcome} (p : Outcome) {old new : List ℕ} → o ≡ p → new ≡ tried_signature set p old → Tries set o old new (tried_of p)
tries p e s = rw e (record { answer = refl; signature = s })

module _ {set : Numbers} {secret signature bits v : List ℕ} {y z₀ : List ℤ} (t : Concludes set secret signature y bits v z₀)
    {highs : Highs} {digest c : List ℕ} (d : Challenged set highs digest secret c)
    {z : List ℤ} {passed : Bool} (r : Responded set (s_of set secret) (all_e set secret) c y v z passed) where
  concluded_is : (parts : List ℤ) → Held set parts highs
      → answered set (key_of set secret) y (λ i. polynomial set.n i v) (challenge set parts digest (secret_g set secret)) ≡ cond passed (passes z c) fails
  unfolding answered key_of
  concluded_is parts e = rw (← d.is parts e, ← r.passed_is, ← r.z_is)

  pub concluded_fails : passed ≡ false → Concluded set highs digest secret y v signature signature Fails
  concluded_fails f = record { is = λ parts e. tries fails (concluded_is parts e ∙ rw f) refl }

  module _ (f : passed ≡ true) where
    pub concluded_writes : {scratch : List ℕ} → length scratch ≡ length bits → length z ≡ length z₀ → WritesChecked set z c signature scratch
    unfolding attempt_passes
    concluded_writes s l =
        record {
          good = t.responds.whole.good;
          scratch_long = s ∙ t.bits_long;
          z_long = l ∙ t.responds.z_long;
          z_inside = ap (z_in_range set) r.z_is ∙ both_first _ _ (sym r.passed_is ∙ f);
          c_long = d.long;
          signature_long = t.signature_long;
        }

    pub concluded_passes : {new : List ℕ} → new ≡ signature_record set z c → Concluded set highs digest secret y v signature new Passes
    concluded_passes w = record { is = λ parts e. tries (passes z c) (concluded_is parts e ∙ rw f) w }

-- ---- the outcome

module _ {set : Numbers} {secret a signature : List ℕ} (t : Attempts set secret a signature) {y₀ z₀ : List ℤ} {yr v₀ : List ℕ}
    (places : Places set y₀ yr v₀ z₀) where
  pub attempt_commits : Commits set a y₀ yr v₀
  attempt_commits =
      record {
        good = t.whole.good;
        a_long = ap length t.a_is ∙ all_a_length set t.whole.good (secret_seed_a set secret);
        a_below = rw t.a_is (all_a_below set t.whole.good (secret_seed_a set secret));
        y_long = places.y_long;
        yr_long = places.yr_long;
        v_long = places.v_long;
      }

  module _ {rand : List ℕ} {counter : ℕ} {y : List ℤ} {v : List ℕ} {highs : Highs} (m : Committed set a rand counter y v highs) where
    row_is : v_row set a (y_of set rand counter) ≡ v_of set (secret_seed_a set secret) (y_of set rand counter)
    unfolding v_row v_of a_of
    row_is = rw t.a_is

    pub attempt_concludes : {scratch : List ℕ} → length scratch ≡ length yr → Concludes set secret signature y scratch v z₀
    attempt_concludes s =
        record {
          responds =
              record {
                whole = t.whole;
                y_long = ap length m.y_is ∙ y_of_length set t.whole.good rand counter;
                y_within = rw m.y_is (y_of_within set t.whole.good rand counter);
                v_long = ap length m.v_is ∙ v_all_length set a (y_of set rand counter);
                v_below = rw m.v_is (v_all_below set t.whole.good a (y_of set rand counter));
                z_long = places.z_long;
              };
          bits_long = s ∙ places.yr_long;
          signature_long = t.signature_long;
        }

    pub attempt_overflows : (digest : List ℕ) → highs.fit ≡ false → Tries set (attempt set (key_of set secret) digest rand counter) signature signature Overflows
    unfolding attempt tried key_of
    attempt_overflows digest h = tries overflows (rw (← row_is, sym m.held.fit_is ∙ h)) refl

    module _ (h : highs.fit ≡ true) {digest new : List ℕ} {r : Tried} (d : Concluded set highs digest secret y v signature new r) where
      same_tests : (c : List ℕ) → attempt_passes set (s_of set secret) (all_e set secret) y (λ i. polynomial set.n i v) (enc_of set c)
          ≡ attempt_passes set (s_of set secret) (all_e set secret) (y_of set rand counter) (v_row set a (y_of set rand counter)) (enc_of set c)
      unfolding attempt_passes w_of w_one
      same_tests c =
          rw (m.y_is, m.v_is)
          (ap (λ (b : Bool). z_in_range set (z_from set (s_of set secret) (y_of set rand counter) (enc_of set c)) && b)
          (each_below_ext set.k _ _ (λ i l. ap (λ (x : List ℕ). w_passes set (w_one set (polynomial set.n i (all_e set secret)) x (polynomial_of (enc_of set c)))) (v_parts set a (y_of set rand counter) i l))))

      -- where the high parts fit, the outcome is what follows
      outcome_is : attempt set (key_of set secret) digest rand counter
          ≡ answered set (key_of set secret) y (λ i. polynomial set.n i v)
          (challenge set (highs_of set (v_row set a (y_of set rand counter))) digest (secret_g set secret))
      unfolding attempt tried answered key_of
      outcome_is = rw (← row_is, sym m.held.fit_is ∙ h, same_tests, m.y_is)

      pub attempt_concluded : Tries set (attempt set (key_of set secret) digest rand counter) signature new r
      attempt_concluded = rw outcome_is (d.is _ m.held)
