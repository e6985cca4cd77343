-- For every good set: an attempt that passes with the key that was made gives a z and a c' that checking accepts.
-- Assumes nothing.
use Rattle.std.specs.Prelude.{◌≡◌, true, length, get_or, ℤ, pos, nat_abs, ◌+ℤ◌, ◌-ℤ◌}
use Rattle.std.proofs.Math.Path.{refl, ap}
use Rattle.std.proofs.Common.{sym, ap₂, ◌∙◌, arith, ext_get_or}
use Rattle.std.proofs.Math.Bool.{Bool}
use mathlib.Core.List.{List, map}
use Prim.Native.Nat.{ℕ, ◌*◌, ◌≤◌, ◌<◌}
use Rattle.std.proofs.lemmas.List.{length-map}
use Rattle.std.proofs.Math.ListN.{get_or-map}
use borrow.Author.Tests.{eq-eqb, leb-true, le-leb}
use Rattle.whole.specs.Int.{int, minus_is, sum_is}
use Rattle.whole.specs.Residue.{Same}
use Rattle.whole.specs.ResidueLaws.{same_eq, same_sym, same_trans, same_add, same_refl}
use Rattle.whole.specs.TableLaws.{joined_ext, joined_part}
use Rattle.whole.specs.Every.{every, each_below, same_bytes}
use Rattle.answers.specs.Tests.{answer}
use Rattle.whole.specs.EveryLaws.{both_first, both_second, every_at, each_below_at, same_refl_bytes}
use Rattle.answers.specs.TestLaws.{answer_pass, answer_none, passes_at}
use Rattle.rounding.specs.Parts.{high}
use Rattle.rounding.specs.Tests.{low_passes, size_passes, fits_byte}
use Rattle.ring.specs.Product.{mul}
use Rattle.ring.specs.Lists.{naturals, integers, signed_bytes, residues}
use Rattle.ring.specs.ListsLaws.{residues_at}
use Rattle.ring.specs.Largest.{largest, sizes, sum_passes}
use Rattle.ring.specs.Bound.{AtMost, bytes_bound}
use Rattle.sets.specs.declared.Numbers.{Numbers}
use Rattle.sets.specs.Good.{Good}
use Rattle.sets.specs.Limits.{message_limit, seed_bytes}
use Rattle.sets.specs.GoodLaws.{q_some}
use Rattle.sampling.specs.Positions.{polynomial_of}
use Rattle.sampling.specs.StreamsLaws.{shake_length, enc_of_small}
use Rattle.sampling.proofs.DrawnLengths.{enc_of_total}
use Rattle.sampling.specs.Streams.{a_of, y_of, enc_of, challenge, message_digest, key_digest, high_parts, highs_of}
use Rattle.records.specs.Public.{t_of, seed_a_of, public_tests, read_public_tests}
use Rattle.records.specs.Secret.{e_of}
use Rattle.signatures.specs.Signature.{signature_record, z_of, challenge_of, z_in_range}
use Rattle.records.specs.PublicLaws.{polynomial_length, public_packed, public_t}
use Rattle.signatures.specs.Laws.{signature_record_length, signature_marked, signature_challenge, signature_z}
use Rattle.keys.specs.Key.{key_t, all_key_t, public_of, each_e_passes}
use Rattle.keys.specs.Made.{key_g, Accepted, MadeReads}
use Rattle.keys.specs.MadeLaws.{accepted_reads}
use Rattle.keys.specs.KeyLaws.{key_t_length, all_key_t_length, all_key_t_below}
use Rattle.attempts.specs.Attempt.{Key, passes, v_of, z_from, w_of, w_passes, attempt}
use Rattle.attempts.specs.AttemptLaws.{v_of_length, w_of_length, z_from_length, Passing, passing, attempt_z, attempt_w}
use Rattle.signing.specs.OwnKeyLaws.{made_key}
use Rattle.checking.specs.Check.{check_w, check_highs, public_g, input_tests, high_tests, hash_tests, work_tests, digest_tests, check_tests}
use Rattle.demands.specs.Alike.{same_w, alike}

-- ---- a length

challenge_length : (set : Numbers) (highs : List ℤ) (digest g : List ℕ) → length (challenge set highs digest g) ≡ seed_bytes
unfolding challenge
challenge_length set highs digest g = shake_length _ seed_bytes

-- f cannot tell two lists apart
map_alike : {A B : Type 0} (f : A → B) (n : ℕ) (xs ys : List A) (d : A) → length xs ≡ n → length ys ≡ n → ((j : ℕ) → j < n → f (get_or xs j d) ≡ f (get_or ys j d)) → map f xs ≡ map f ys
map_alike {B = B} f n xs ys d e g h =
    ext_get_or (f d) (map f xs) (map f ys) (length-map xs f ∙ e ∙ sym (length-map ys f ∙ g))
    (λ j l. get_or-map f xs j d ∙ h j (omega (arith, length-map xs f)) ∙ sym (get_or-map f ys j d))

-- ---- the key that key making made

module _ (set : Numbers) (good : Good set) (s e seed_a : List ℕ) where
  -- t_1..t_k
  abbrev made_t : List ℕ
  made_t = all_key_t set s e seed_a

  -- what the public record holds of them
  made_t_lem : (i : ℕ) → i < set.k → t_of set (public_of set s e seed_a) i ≡ key_t set s e seed_a i
  unfolding public_of all_key_t
  made_t_lem i l =
      public_t set made_t seed_a (all_key_t_length set s e seed_a) good (all_key_t_below set s e seed_a good) i l
      ∙ joined_part set.k set.n i (key_t set s e seed_a) (λ j m. key_t_length set s e seed_a j) l

  -- and its digest
  made_g : public_g set (public_of set s e seed_a) ≡ key_g set s e seed_a
  unfolding public_of public_g
  made_g = ap (key_digest set) (public_packed set made_t seed_a (all_key_t_length set s e seed_a))

  -- ---- the receiver's high parts are the signer's

  module _ (e_long : length e ≡ set.k * set.n) (check_e : each_e_passes set e ≡ true) (y : List ℤ) (c' : List ℕ)
      (few : AtMost set.n set.h (polynomial_of (enc_of set c')))
      (passed : each_below set.k (λ i. w_passes set (w_of set e (v_of set seed_a y) (enc_of set c') i)) ≡ true) where
    -- the signer's v_i and w_i, and e_i c
    abbrev v : ℕ → List ℕ
    v = v_of set seed_a y

    abbrev w : ℕ → List ℕ
    w = w_of set e v (enc_of set c')

    abbrev ec : ℕ → ℕ → ℤ
    ec i = mul set.n (signed_bytes (e_of set e i)) (polynomial_of (enc_of set c'))

    -- |e_i c| is at most E
    small : (i j : ℕ) → i < set.k → j < set.n → nat_abs (ec i j) ≤ set.e
    unfolding each_e_passes sum_passes
    small i j l m =
        omega (arith, bytes_bound set.n set.h (e_of set e i) (polynomial_of (enc_of set c')) j (polynomial_length set.n set.k i e e_long l) m few, passes_e)
      where
        passes_e : largest set.h (sizes (e_of set e i)) ≤ set.e
        passes_e = leb-true (largest set.h (sizes (e_of set e i))) set.e (each_below_at set.k i (λ i. sum_passes set.h set.e (e_of set e i)) check_e l)

    one_coefficient : (i j : ℕ) → i < set.k → j < set.n → high set.q set.d (pos (get_or (w i) j 0)) ≡ high set.q set.d (pos (get_or (v i) j 0))
    unfolding w_passes w_of
    one_coefficient i j l m =
        alike set.q set.d set.e (get_or (v i) j 0) (get_or (w i) j 0) (ec i j) (q_some good)
        (every_at lows (w i) j 0 (both_first (every lows (w i)) (every sized (w i)) both_pass) long)
        (every_at sized (w i) j 0 (both_second (every lows (w i)) (every sized (w i)) both_pass) long)
        moved (small i j l m)
      where
        lows : ℕ → Bool
        lows x = low_passes set.q set.d set.e (pos x)

        sized : ℕ → Bool
        sized x = size_passes set.q set.e (pos x)

        both_pass : w_passes set (w i) ≡ true
        both_pass = each_below_at set.k i _ passed l

        long : j < length (w i)
        long = omega (arith, m, w_of_length set e v (enc_of set c') i)

        apart : naturals (v i) j ≡ (naturals (v i) j -ℤ ec i j) +ℤ ec i j
        apart = omega (int, minus_is (naturals (v i) j) (ec i j), sum_is (naturals (v i) j -ℤ ec i j) (ec i j))

        moved : Same set.q (naturals (v i) j) (naturals (w i) j +ℤ ec i j)
        moved =
            same_trans (same_eq set.q apart)
            (same_add (same_sym (residues_at set.q set.n (λ j. naturals (v i) j -ℤ ec i j) j (q_some good) m)) (same_refl set.q (ec i j)))

    alike_lists : (i : ℕ) → i < set.k → high_parts set (w i) ≡ high_parts set (v i)
    alike_lists i l =
        map_alike (λ x. high set.q set.d (pos x)) set.n (w i) (v i) 0 (w_of_length set e v (enc_of set c') i) (v_of_length set seed_a y i)
        (λ j m. one_coefficient i j l m)

    -- t_i is read from the record as key making made it, so the receiver's w_i are the signer's
    receiver : (i : ℕ) → i < set.k → check_w set seed_a (t_of set (public_of set s e seed_a)) (z_from set s y (enc_of set c')) c' i ≡ w i
    unfolding check_w
    receiver i l = ap from (made_t_lem i l) ∙ same_w set (q_some good) s e seed_a y c' i
      where
        from : List ℕ → List ℕ
        from t = residues set.q set.n (λ j. mul set.n (naturals (a_of set seed_a i)) (integers (z_from set s y (enc_of set c'))) j -ℤ mul set.n (naturals t) (polynomial_of (enc_of set c')) j)

    pub same_highs : check_highs set seed_a (t_of set (public_of set s e seed_a)) (z_from set s y (enc_of set c')) c' ≡ highs_of set (v_of set seed_a y)
    unfolding check_highs highs_of
    same_highs = joined_ext set.k _ _ (λ i l. ap (high_parts set) (receiver i l) ∙ alike_lists i l)

-- ---- what an attempt that passes gives

-- it can be written: z has n coefficients within B − S, and c' 32 bytes
pub record SignatureFits (set : Numbers) (z : List ℤ) (c' : List ℕ) : Type 0 where
  pub z_long : length z ≡ set.n
  pub c_long : length c' ≡ seed_bytes
  pub z_passes : z_in_range set z ≡ true

pub passed_fits : (set : Numbers) (key : Key) (digest rand : List ℕ) (counter : ℕ) (z : List ℤ) (c' : List ℕ)
    → attempt set key digest rand counter ≡ passes z c' → SignatureFits set z c'
passed_fits set key digest rand counter z c' a =
    record {
      z_long = ap length (sym p.is) ∙ z_from_length set key.s y (enc_of set c');
      c_long = ap length (sym p.hash) ∙ challenge_length set (highs_of set (v_of set key.seed_a y)) digest key.g;
      z_passes = ap (z_in_range set) (sym p.is) ∙ attempt_z set key y (v_of set key.seed_a y) (enc_of set c') p.tests;
    }
  where
    y : List ℤ
    y = y_of set rand counter

    p : Passing set key digest rand counter z c'
    p = passing set key digest rand counter z c' a

-- ---- what checking answers

module _ (set : Numbers) (good : Good set) (s e seed_a seed_y message : List ℕ) where
  -- a key that was accepted, and a message within the limit
  module _ (made : Accepted set s e seed_a seed_y) (short : length message ≤ message_limit) where
    -- an attempt that passes gives a signature that checking accepts
    pub accepted : (rand : List ℕ) (counter : ℕ) (z : List ℤ) (c' : List ℕ)
        → attempt set (made_key set s e seed_a) (message_digest set message) rand counter ≡ passes z c'
        → answer (check_tests set (public_of set s e seed_a) message (signature_record set z c')) ≡ 0
    unfolding input_tests high_tests hash_tests work_tests digest_tests check_tests read_public_tests public_tests every
    accepted rand counter z c' a =
        let at = passes_at (read_public_tests set public (set.k * set.n) seed_bytes) refl reads.public in
        answer_pass 1 _ (at 2)
        ∙ answer_pass 1 _ (eq-eqb _ _ (signature_record_length set z c' fits.z_long fits.c_long))
        ∙ answer_pass 2 _ (at 3)
        ∙ answer_pass 2 _ (signature_marked set z c')
        ∙ answer_pass 3 _ (le-leb (length message) message_limit short)
        ∙ answer_pass 5 _ (at 4)
        ∙ answer_pass 9 _ (ap (z_in_range set) z_back ∙ fits.z_passes)
        ∙ answer_pass 10 _ (ap (every fits_byte) highs_are ∙ p.fits)
        ∙ answer_pass 11 _ (ap₂ same_bytes hash_is c_back ∙ same_refl_bytes c')
        ∙ answer_none
      where
        reads : MadeReads set s e seed_a seed_y
        reads = accepted_reads set s e seed_a seed_y made good

        key : Key
        key = made_key set s e seed_a

        y : List ℤ
        y = y_of set rand counter

        public : List ℕ
        public = public_of set s e seed_a

        signature : List ℕ
        signature = signature_record set z c'

        p : Passing set key (message_digest set message) rand counter z c'
        p = passing set key (message_digest set message) rand counter z c' a

        fits : SignatureFits set z c'
        fits = passed_fits set key (message_digest set message) rand counter z c' a

        w_passes_lem : each_below set.k (λ i. w_passes set (w_of set e (v_of set seed_a y) (enc_of set c') i)) ≡ true
        w_passes_lem = attempt_w set key y (v_of set seed_a y) (enc_of set c') p.tests

        z_back : z_of set signature ≡ z
        z_back = signature_z set z c' fits.z_long good fits.z_passes

        c_back : challenge_of set signature ≡ c'
        c_back = signature_challenge set z c' fits.z_long fits.c_long

        few : AtMost set.n set.h (polynomial_of (enc_of set c'))
        few = record { small = λ i l. enc_of_small set good c' i; few = enc_of_total set good c' }

        highs_are : check_highs set (seed_a_of set public) (t_of set public) (z_of set signature) (challenge_of set signature) ≡ highs_of set (v_of set seed_a y)
        highs_are =
            ap (λ (x : List ℕ). check_highs set x (t_of set public) (z_of set signature) (challenge_of set signature)) reads.public_seed_a
            ∙ ap₂ (λ (x : List ℤ) (d : List ℕ). check_highs set seed_a (t_of set public) x d) (z_back ∙ sym p.is) c_back
            ∙ same_highs set good s e seed_a made.lengths.e_long made.check_e y c' few w_passes_lem

        hash_is : challenge set (check_highs set (seed_a_of set public) (t_of set public) (z_of set signature) (challenge_of set signature)) (message_digest set message) (public_g set public) ≡ c'
        hash_is = ap₂ (λ (h : List ℤ) (g : List ℕ). challenge set h (message_digest set message) g) highs_are (made_g set good s e seed_a) ∙ p.hash
