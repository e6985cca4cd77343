-- No high part leaves a signed byte in a good set: no attempt overflows, and neither signing nor checking ever answers 10. In set I a high part is at
-- most 41 in size.
-- Assumes nothing.
use Rattle.std.specs.Prelude.{◌≡◌, Bool, true, false, cond, ℤ, pos, negsuc, nat_abs, length}
use Rattle.std.proofs.Math.Path.{refl}
use Rattle.std.proofs.Common.{sym, ◌∙◌, arith, lt-ltb}
use mathlib.Core.List.{List}
use Prim.Native.Nat.{ℕ, zero, suc, ◌≤◌}
use Rattle.whole.specs.Every.{every}
use Rattle.whole.specs.EveryLaws.{both, every_joined, every_map, every_always, each_below_all}
use Rattle.answers.specs.Tests.{Test, answer}
use Rattle.rounding.specs.Parts.{high}
use Rattle.rounding.specs.PartsLaws.{high_bound}
use Rattle.rounding.specs.Tests.{fits_byte}
use Rattle.sets.specs.declared.Numbers.{Numbers}
use Rattle.sets.specs.Good.{Good, high_most}
use Rattle.sets.specs.GoodLaws.{q_some}
use Rattle.sets.specs.SetI.{set_i}
use Rattle.sampling.specs.Streams.{message_digest, rand_of, y_of, challenge, enc_of, highs_of}
use Rattle.records.specs.Public.{t_of, seed_a_of}
use Rattle.records.specs.Secret.{secret_seed_y, byte_tests}
use Rattle.signatures.specs.Signature.{z_of, challenge_of}
use Rattle.keys.specs.Key.{secrets_tests}
use Rattle.attempts.specs.Attempt.{Key, passes, fails, overflows, key_of, attempt, tried, answered, attempt_passes, v_of, z_from}
use Rattle.signing.specs.Search.{Found, found, none, overflow, search}
use Rattle.signing.specs.SearchLaws.{overflow_somewhere}
use Rattle.signing.specs.Sign.{begin_tests, sign_tests, sign_attempts, sign_search, gives_back}
use Rattle.signing.specs.Promises.{Signs}
use Rattle.checking.specs.Check.{check_w, check_highs, input_tests, high_tests, hash_tests, work_tests, digest_tests, check_tests}
use Rattle.demands.specs.FirstTest.{not_answered}

-- in set I a high part is at most 41 in size
pub set_i_high : high_most set_i ≡ 41
set_i_high = refl

small_fits : (x : ℤ) → nat_abs x ≤ 127 → fits_byte x ≡ true
small_fits (pos a) h = lt-ltb a 128 (omega arith)
small_fits (negsuc a) h = lt-ltb a 128 (omega arith)

module _ (set : Numbers) (good : Good set) where
  pub highs_fit : (v : ℕ → List ℕ) → every fits_byte (highs_of set v) ≡ true
  unfolding highs_of
  highs_fit v =
      every_joined fits_byte set.k _
      ∙ each_below_all set.k _ (λ i l. every_map fits_byte (λ x. high set.q set.d (pos x)) (v i)
      ∙ every_always (λ x. fits_byte (high set.q set.d (pos x))) (v i) (λ x. small_fits (high set.q set.d (pos x)) (omega (arith, high_bound set.q set.d (pos x) (q_some good), good.high_fits))))

  -- so no attempt meets 10
  outcome_fits : (key : Key) (digest : List ℕ) (y : List ℤ) (v : ℕ → List ℕ) → every fits_byte (highs_of set v) ≡ true → tried set key digest y v ≡ overflows → ⊥
  unfolding tried answered
  outcome_fits key digest y v f e = go (attempt_passes set key.s key.e y v (enc_of set c')) (rw f at e)
    where
      c' : List ℕ
      c' = challenge set (highs_of set v) digest key.g

      go : (b : Bool) → cond b (passes (z_from set key.s y (enc_of set c')) c') fails ≡ overflows → ⊥
      go true q = let x : ◌≡◌ {A = ℕ} 0 1 = cc in omega arith
      go false q = let x : ◌≡◌ {A = ℕ} 0 1 = cc in omega arith

  pub never_overflows : (key : Key) (digest rand : List ℕ) (counter : ℕ) → attempt set key digest rand counter ≡ overflows → ⊥
  unfolding attempt
  never_overflows key digest rand counter e =
      outcome_fits key digest (y_of set rand counter) (v_of set key.seed_a (y_of set rand counter)) (highs_fit (v_of set key.seed_a (y_of set rand counter))) e

  -- so signing never answers 10, whatever it is lent
  pub sign_never_10 : (secret message r old signature : List ℕ) (budget counter : ℕ) → Signs set secret message r budget old signature 10 counter → ⊥
  unfolding byte_tests secrets_tests begin_tests sign_tests every sign_search
  sign_never_10 secret message r old signature budget counter signs = go (answer tests) refl (search (sign_attempts set secret message r) budget) refl signs.number_is
    where
      tests : List Test
      tests = sign_tests set secret (length message) (length r) budget (length old)

      go : (refusal : ℕ) → answer tests ≡ refusal → (f : Found) → search (sign_attempts set secret message r) budget ≡ f → 10 ≡ (gives_back set refusal f old).number → ⊥
      go zero e (found at z c') g h = omega arith
      go zero e none g h = omega arith
      go zero e overflow g h =
          let o = overflow_somewhere (sign_attempts set secret message r) budget 1 g in
          never_overflows (key_of set secret) (message_digest set message) (rand_of set (secret_seed_y set secret) r (message_digest set message)) o.0 o.1
      go (suc m) e f g h = not_answered tests 9 refl (e ∙ sym h)

  -- and checking never does
  pub check_never_10 : (public message signature : List ℕ) → answer (check_tests set public message signature) ≡ 10 → ⊥
  unfolding input_tests high_tests hash_tests work_tests digest_tests check_tests check_highs every
  check_never_10 public message signature =
      not_answered (check_tests set public message signature) 9
      (both (highs_fit (check_w set (seed_a_of set public) (t_of set public) (z_of set signature) (challenge_of set signature))) refl)
