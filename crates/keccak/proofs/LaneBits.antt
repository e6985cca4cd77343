-- The operations on lanes, bit by bit, as FIPS 202 has them: ⊕ and · of two bits, ⊕ 1, and bit z that goes to (z + k) mod 64.
-- Assumes nothing.
use mathlib.Core.Path.{◌≡◌, sym, ap, ◌∙◌}
use Prim.Native.Nat.{ℕ, zero, suc, ◌+◌, ◌-◌, ◌*◌, ◌/◌, ◌%◌, ◌^◌, ◌<◌}
use native.Mathlib.Decide.{dec_lt}
use native.Mathlib.Nat.{add-zero, mul-mod_left, mod-lt, pow-suc}
use native.Mathlib.Omega.{arith}
use lib.Bits.{bit_xor, bit_and, bit_or, xor_shr, xor_mod, and_shr, and_mod, or_shifted}
use lib.Pow.{pow_pos, pow-add, split, shl-shr, shr-shr, shr_lt, high, low, mod-pow-add, field, mod-mod-pow}
use Rattle.keccak.specs.State.{rotl, complement}

-- bit z of a
abbrev pub bit : ℕ → ℕ → ℕ
bit a z = a / 2 ^ z % 2

pub xor_bit : (a b z : ℕ) → bit (bit_xor a b) z ≡ bit_xor (bit a z) (bit b z)
xor_bit a b z = ap (λ (q : ℕ). q % 2) (xor_shr a b z) ∙ xor_mod (a / 2 ^ z) (b / 2 ^ z) 1

pub and_bit : (a b z : ℕ) → bit (bit_and a b) z ≡ bit_and (bit a z) (bit b z)
and_bit a b z = ap (λ (q : ℕ). q % 2) (and_shr a b z) ∙ and_mod (a / 2 ^ z) (b / 2 ^ z) 1

-- a lane is hi · 2 ^ z + lo, with hi of n + 1 bits: its complement is d · 2 ^ z + (2 ^ z - 1 - lo), where d is 2 ^ (n + 1) - 1 - hi
complement_is : (hi lo d n z a : ℕ) → 2 ^ n * 2 * 2 ^ z ≡ 2 ^ 64 → hi * 2 ^ z + lo ≡ a → lo < 2 ^ z → d + hi + 1 ≡ 2 ^ n * 2
    → complement a ≡ d * 2 ^ z + (2 ^ z - 1 - lo)
complement_is hi lo d n z a whole parts small e = omega (arith, ap (λ (t : ℕ). t * 2 ^ z) e)

module _ (n z a : ℕ) (e : suc n + z ≡ 64) (h : a < 2 ^ 64) where
  whole : 2 ^ n * 2 * 2 ^ z ≡ 2 ^ 64
  whole = ap (λ (m : ℕ). m * 2 ^ z) (sym (pow-suc 2 n)) ∙ sym (pow-add 2 (suc n) z) ∙ ap (λ (m : ℕ). 2 ^ m) e

  changed : bit (complement a) z ≡ 1 - bit a z
  changed =
      let top : a / 2 ^ z < 2 ^ n * 2 = rw (← pow-suc 2 n) (shr_lt (suc n) z (rw e h)) in
      let small : a % 2 ^ z < 2 ^ z = mod-lt a (pow_pos z) in
      let d : ℕ = 2 ^ n * 2 - 1 - a / 2 ^ z in
      rw (complement_is (a / 2 ^ z) (a % 2 ^ z) d n z a whole (split a z) small (omega arith))
      (rw (high d z {lo = 2 ^ z - 1 - a % 2 ^ z} (omega arith)) (omega arith))

pub complement_bit : (a z : ℕ) → a < 2 ^ 64 → z < 64 → bit (complement a) z ≡ 1 - bit a z
complement_bit a z ha hz = changed (63 - z) z a (omega arith) ha

-- the bits below n are those of the remainder by 2 ^ n
bit_mod : (a n z : ℕ) → z < n → bit (a % 2 ^ n) z ≡ bit a z
bit_mod a n z h =
    let e : n ≡ (n - z - 1 + 1) + z = omega arith in
    ap (λ (m : ℕ). bit (a % 2 ^ m) z) e ∙ ap (λ (q : ℕ). q % 2) (field a (n - z - 1 + 1) z)
    ∙ mod-mod-pow (a / 2 ^ z) (n - z - 1) 1

-- a turn by k puts the k upper bits of a lane below the n others
module _ (k n a : ℕ) (e : k + n ≡ 64) (h : a < 2 ^ 64) where
  upper : a / 2 ^ n < 2 ^ k
  upper = shr_lt k n (rw e h)

  turned : bit_or (a * 2 ^ k % 2 ^ 64) (a / 2 ^ n) ≡ a % 2 ^ n * 2 ^ k + a / 2 ^ n
  turned =
      let e' : 64 ≡ n + k = omega arith in
      ap (λ (m : ℕ). bit_or (a * 2 ^ k % 2 ^ m) (a / 2 ^ n)) e'
      ∙ rw (mod-pow-add (a * 2 ^ k) n k, shl-shr a k, mul-mod_left a (2 ^ k), add-zero (a % 2 ^ n * 2 ^ k))
      (or_shifted (a % 2 ^ n) k (a / 2 ^ n) upper)

  lower_bit : (z : ℕ) → z < n → bit (a % 2 ^ n * 2 ^ k + a / 2 ^ n) (k + z) ≡ bit a z
  lower_bit z hz =
      ap (λ (q : ℕ). q % 2) (sym (shr-shr (a % 2 ^ n * 2 ^ k + a / 2 ^ n) k z) ∙ ap (λ (q : ℕ). q / 2 ^ z) (high (a % 2 ^ n) k upper))
      ∙ bit_mod a n z hz

  upper_bit : (z : ℕ) → z < k → bit (a % 2 ^ n * 2 ^ k + a / 2 ^ n) z ≡ bit a (n + z)
  upper_bit z hz =
      sym (bit_mod (a % 2 ^ n * 2 ^ k + a / 2 ^ n) k z hz)
      ∙ ap (λ (q : ℕ). bit q z) (low (a % 2 ^ n) k upper)
      ∙ ap (λ (q : ℕ). q % 2) (shr-shr a n z)

  each_bit : (z : ℕ) → z < 64 → bit (a % 2 ^ n * 2 ^ k + a / 2 ^ n) ((z + k) % 64) ≡ bit a z
  each_bit z hz =
      elim (dec_lt z n) [
        | yes below ↦
            let e' : (z + k) % 64 ≡ k + z = omega arith in
            rw e' (lower_bit z below)
        | no above ↦
            let e' : (z + k) % 64 ≡ z - n = omega arith in
            let e'' : n + (z - n) ≡ z = omega arith in
            rw e' (upper_bit (z - n) (omega arith) ∙ ap (bit a) e'')
      ]

pub rotl_bit : (k a z : ℕ) → k < 64 → a < 2 ^ 64 → z < 64 → bit (rotl k a) ((z + k) % 64) ≡ bit a z
rotl_bit zero a z hk ha hz = ap (bit a) (omega arith)
rotl_bit (suc k) a z hk ha hz =
    let e : suc k + (64 - suc k) ≡ 64 = omega arith in
    rw (turned (suc k) (64 - suc k) a e ha) (each_bit (suc k) (64 - suc k) a e ha z hz)
