-- Laws of digits, and of packing both round trips: `unpacked_packed`, and `packed_unpacked` with `packed_unpacked_whole`.
-- Assumes nothing.
use Rattle.std.specs.Prelude.{◌≡◌, refl, List, [], ◌∷◌, ℕ, zero, suc, ◌+◌, ◌*◌, ◌/◌, ◌%◌, ◌^◌, ◌≤◌, ◌<◌, length, get_or, drop}
use Rattle.std.proofs.Common.{ap, ◌∙◌, not-suc-le-zero, le_of_suc-le-suc, zero-lt-suc, mod-lt, mod-eq_of_lt, lt_of_lt_of_le, mul-zero, mul-suc, div-one, add_comm, zero-add, add-one, arith, pow_pos, pow_mono, pow-add, shr-shr}
use Rattle.std.proofs.Math.Nat.{mod-one, add-mul-mod_self_left, add-mul-div_left, div-eq_of_lt}
use Rattle.std.proofs.Math.Arith.{digits_lt}
use Rattle.std.proofs.lemmas.Nat.{mod-pow-add}
use Rattle.whole.specs.Below.{Below}
use Rattle.whole.specs.BelowLaws.{below_tail}
use Rattle.packing.specs.Digits.{value, digits, bytes_for, packed, unpacked}

-- ---- digits

pub digits_length : (w n x : ℕ) → length (digits w n x) ≡ n
unfolding digits
digits_length w zero x = refl
digits_length w (suc n) x = ap suc (digits_length w n (x / 2 ^ w))

each_below : (w n x i : ℕ) → i < length (digits w n x) → get_or (digits w n x) i 0 < 2 ^ w
unfolding digits
each_below w zero x i h = absurd (not-suc-le-zero h)
each_below w (suc n) x zero h = mod-lt x (pow_pos w)
each_below w (suc n) x (suc i) h = each_below w n (x / 2 ^ w) i (le_of_suc-le-suc h)

pub digits_below : (w n x : ℕ) → Below (2 ^ w) (digits w n x)
digits_below w n x = record { at = each_below w n x }

-- digit i alone
pub digits_at : (w n x i : ℕ) → i < n → get_or (digits w n x) i 0 ≡ x / 2 ^ (w * i) % 2 ^ w
unfolding digits
digits_at w zero x i h = absurd (not-suc-le-zero h)
digits_at w (suc n) x zero h = rw (mul-zero, div-one)
digits_at w (suc n) x (suc i) h = digits_at w n (x / 2 ^ w) i (le_of_suc-le-suc h) ∙ rw (shr-shr, mul-suc, add_comm (w * i) w)

-- the number of n digits of x is x's low n digits
pub value_digits : (w n x : ℕ) → value w (digits w n x) ≡ x % 2 ^ (w * n)
unfolding digits value
value_digits w zero x = rw (mul-zero, mod-one)
value_digits w (suc n) x = rw (value_digits w n (x / 2 ^ w), mul-suc, mod-pow-add) (omega arith)

-- which is all of x where it has no more
pub value_digits_all : (w n x : ℕ) → x < 2 ^ (w * n) → value w (digits w n x) ≡ x
value_digits_all w n x h = value_digits w n x ∙ mod-eq_of_lt h

pub value_below : (w : ℕ) (vs : List ℕ) → Below (2 ^ w) vs → value w vs < 2 ^ (w * length vs)
unfolding value
value_below w [] h = pow_pos (w * 0)
value_below w (v ∷ vs) h =
    rw (mul-suc, pow-add) (omega (arith, digits_lt (value_below w vs (below_tail h)) (h.at 0 (zero-lt-suc (length vs)))))

pub digits_value : (w : ℕ) (vs : List ℕ) → Below (2 ^ w) vs → digits w (length vs) (value w vs) ≡ vs
unfolding digits value
digits_value w [] h = refl
digits_value w (v ∷ vs) h =
    let l : v < 2 ^ w = h.at 0 (zero-lt-suc (length vs)) in
    rw (add-mul-mod_self_left, mod-eq_of_lt l, add-mul-div_left v (value w vs) (pow_pos w), div-eq_of_lt l, zero-add)
    (ap (λ (r : List ℕ). v ∷ r) (digits_value w vs (below_tail h)))

-- the digits from i on; past the last one come zeros
pub value_drop : (w i : ℕ) (vs : List ℕ) → value w (drop i vs) ≡ get_or vs i 0 + 2 ^ w * value w (drop (i + 1) vs)
unfolding value
value_drop w i vs = rw add-one (go i vs)
  where
    go : (j : ℕ) (us : List ℕ) → value w (drop j us) ≡ get_or us j 0 + 2 ^ w * value w (drop (suc j) us)
    go zero [] = omega arith
    go (suc j) [] = omega arith
    go zero (v ∷ us) = refl
    go (suc j) (v ∷ us) = go j us

-- ---- packing

-- the bits of n values fit the bytes
pub bytes_for_holds : (b n : ℕ) → b * n ≤ 8 * bytes_for b n
bytes_for_holds b n = omega arith

pub packed_length : (b : ℕ) (vs : List ℕ) → length (packed b vs) ≡ bytes_for b (length vs)
unfolding packed
packed_length b vs = digits_length 8 _ _

pub packed_below : (b : ℕ) (vs : List ℕ) → Below 256 (packed b vs)
unfolding packed
packed_below b vs = digits_below 8 _ _

pub unpacked_length : (b n : ℕ) (bytes : List ℕ) → length (unpacked b n bytes) ≡ n
unfolding unpacked
unpacked_length b n bytes = digits_length b n _

pub unpacked_below : (b n : ℕ) (bytes : List ℕ) → Below (2 ^ b) (unpacked b n bytes)
unfolding unpacked
unpacked_below b n bytes = digits_below b n _

-- the values come back
pub unpacked_packed : (b : ℕ) (vs : List ℕ) → Below (2 ^ b) vs → unpacked b (length vs) (packed b vs) ≡ vs
unfolding unpacked packed
unpacked_packed b vs h =
    rw (value_digits_all 8 _ _ (lt_of_lt_of_le (value_below b vs h) (pow_mono (bytes_for_holds b (length vs))))) (digits_value b vs h)

-- the bytes come back, where no bit is set above the n values
pub packed_unpacked : (b n : ℕ) (bytes : List ℕ) → Below 256 bytes → length bytes ≡ bytes_for b n → value 8 bytes < 2 ^ (b * n)
    → packed b (unpacked b n bytes) ≡ bytes
unfolding unpacked packed
packed_unpacked b n bytes h e l = rw (digits_length, value_digits_all b n _ l, ← e) (digits_value 8 bytes h)

-- as where the values take the bytes whole
pub packed_unpacked_whole : (b n : ℕ) (bytes : List ℕ) → Below 256 bytes → 8 * length bytes ≡ b * n → packed b (unpacked b n bytes) ≡ bytes
packed_unpacked_whole b n bytes h e = packed_unpacked b n bytes h (omega arith) (rw (← e) (value_below 8 bytes h))
