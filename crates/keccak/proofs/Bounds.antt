-- The permutation keeps its lanes below 2 ^ 64.
-- Assumes nothing.
use mathlib.Core.List.{List, [], ◌∷◌}
use Prim.Native.Nat.{ℕ, zero, suc, ◌+◌, ◌-◌, ◌*◌, ◌/◌, ◌%◌, ◌^◌, ◌≤◌, ◌<◌}
use native.Mathlib.Nat.{mod-lt, div-le_self, lt_of_le_of_lt, lt_of_lt_of_le, pow-suc}
use native.Mathlib.Omega.{arith}
use lib.Arith.{digits_lt}
use lib.Bits.{xor_lt, and_lt, or_lt}
use lib.Dec.{lit<}
use lib.ListN.{get_or, set, take}
use lib.Pow.{pow_pos, pow_mono}
use Rattle.keccak.specs.Constants.{flip, register, rc, constant_bits, round_constant}
use Rattle.keccak.specs.Offsets.{offset}
use Rattle.keccak.specs.State.{lane, table, lanes, rotl, complement}
use Rattle.keccak.specs.Steps.{theta_c, theta, rho, pi, chi, iota, round, rounds, keccak_f}

-- each number of the list is below b
pub record Below (b : ℕ) (A : List ℕ) : Type 0 where
  pub at : (k : ℕ) → get_or A k 0 < b

module _ {b : ℕ} (pos : 0 < b) where
  below_table : (n : ℕ) (f : ℕ → ℕ) → ((i : ℕ) → f i < b) → (i k : ℕ) → get_or (table n f i) k 0 < b
  below_table zero f h i k = pos
  below_table (suc n) f h i zero = h i
  below_table (suc n) f h i (suc k) = below_table n f h (suc i) k

  below_set : (A : List ℕ) (i v : ℕ) → v < b → ((k : ℕ) → get_or A k 0 < b) → (k : ℕ) → get_or (set A i v) k 0 < b
  below_set [] i v hv h k = pos
  below_set (x ∷ A) zero v hv h zero = hv
  below_set (x ∷ A) zero v hv h (suc k) = h (suc k)
  below_set (x ∷ A) (suc i) v hv h zero = h zero
  below_set (x ∷ A) (suc i) v hv h (suc k) = below_set A i v hv (λ j. h (suc j)) k

  below_take : (n : ℕ) (A : List ℕ) → ((k : ℕ) → get_or A k 0 < b) → (k : ℕ) → get_or (take n A) k 0 < b
  below_take zero A h k = pos
  below_take (suc n) [] h k = pos
  below_take (suc n) (x ∷ A) h zero = h zero
  below_take (suc n) (x ∷ A) h (suc k) = below_take n A (λ j. h (suc j)) k

  below_cons : (x : ℕ) (A : List ℕ) → x < b → ((k : ℕ) → get_or A k 0 < b) → (k : ℕ) → get_or (x ∷ A) k 0 < b
  below_cons x A hx h zero = hx
  below_cons x A hx h (suc k) = h k

-- the register holds bits, so that a round's constant fits a lane

bits_start : Below 2 (register 0)
bits_start = record { at = below_cons (lit< tt) 1 (table 7 (λ i. 0) 0) (lit< tt) (below_table (lit< tt) 7 (λ i. 0) (λ i. lit< tt) 0) }

bits_shift : {R : List ℕ} → Below 2 R → Below 2 (0 ∷ R)
bits_shift {R} h = record { at = below_cons (lit< tt) 0 R (lit< tt) h.at }

bits_flip : {R : List ℕ} (i : ℕ) → Below 2 R → Below 2 (flip R i)
bits_flip {R} i h = record { at = below_set (lit< tt) R i _ (xor_lt 1 (get_or R i 0) (get_or R 8 0) (h.at i) (h.at 8)) h.at }

bits_trunc : {R : List ℕ} → Below 2 R → Below 2 (take 8 R)
bits_trunc {R} h = record { at = below_take (lit< tt) 8 R h.at }

bits_register : (i : ℕ) → Below 2 (register i)
bits_register zero = bits_start
bits_register (suc i) = bits_trunc (bits_flip 6 (bits_flip 5 (bits_flip 4 (bits_flip 0 (bits_shift (bits_register i))))))

pub bit_rc : (t : ℕ) → rc t < 2
unfolding rc
bit_rc t = (bits_register (t % 255)).at 0

-- the bits of a constant before its j-th lie below the place of that one
pub below_place : (i j : ℕ) → constant_bits j i < 2 ^ (2 ^ j - 1)
below_place i zero = lit< tt
below_place i (suc j) =
    let wide : suc (2 ^ j - 1) ≤ 2 ^ suc j - 1 = omega (arith, pow_pos j, pow-suc 2 j) in
    lt_of_lt_of_le (omega (arith, digits_lt (bit_rc (j + 7 * i)) (below_place i j), pow-suc 2 (2 ^ j - 1))) (pow_mono wide)

below_constant : (i : ℕ) → round_constant i < 2 ^ 64
unfolding round_constant
below_constant i = omega (arith, below_place i 6, bit_rc (6 + 7 * i))

-- each step keeps the lanes below 2 ^ 64

below_lanes : (f : ℕ → ℕ → ℕ) → ((x y : ℕ) → f x y < 2 ^ 64) → Below (2 ^ 64) (lanes f)
below_lanes f h = record { at = below_table (lit< tt) 25 (λ i. f (i % 5) (i / 5)) (λ i. h (i % 5) (i / 5)) 0 }

below_rotl : (k a : ℕ) → a < 2 ^ 64 → rotl k a < 2 ^ 64
below_rotl zero a h = h
below_rotl (suc k) a h =
    or_lt 64 (a * 2 ^ suc k % 2 ^ 64) (a / 2 ^ (64 - suc k)) (mod-lt (a * 2 ^ suc k) (pow_pos 64))
    (lt_of_le_of_lt (div-le_self a (2 ^ (64 - suc k))) h)

below_complement : (a : ℕ) → complement a < 2 ^ 64
below_complement a = omega arith

module _ {A : List ℕ} (h : Below (2 ^ 64) A) where
  below_lane : (x y : ℕ) → lane A x y < 2 ^ 64
  below_lane x y = h.at (x + 5 * y)

  below_theta_c : (x : ℕ) → theta_c A x < 2 ^ 64
  below_theta_c x =
      xor_lt 64 _ _ (xor_lt 64 _ _ (xor_lt 64 _ _ (xor_lt 64 _ _ (below_lane x 0) (below_lane x 1)) (below_lane x 2)) (below_lane x 3)) (below_lane x 4)

  below_theta : Below (2 ^ 64) (theta A)
  unfolding theta
  below_theta = below_lanes _ (λ x y. xor_lt 64 _ _ (below_lane x y) (xor_lt 64 _ _ (below_theta_c ((x + 4) % 5)) (below_rotl 1 _ (below_theta_c ((x + 1) % 5)))))

  below_rho : Below (2 ^ 64) (rho A)
  unfolding rho
  below_rho = below_lanes _ (λ x y. below_rotl (offset x y) (lane A x y) (below_lane x y))

  below_pi : Below (2 ^ 64) (pi A)
  unfolding pi
  below_pi = below_lanes _ (λ x y. below_lane ((x + 3 * y) % 5) x)

  below_chi : Below (2 ^ 64) (chi A)
  unfolding chi
  below_chi = below_lanes _ (λ x y. xor_lt 64 _ _ (below_lane x y) (and_lt 64 _ _ (below_complement (lane A ((x + 1) % 5) y)) (below_lane ((x + 2) % 5) y)))

  below_iota : (i : ℕ) → Below (2 ^ 64) (iota A i)
  below_iota i = record { at = below_set (lit< tt) A 0 _ (xor_lt 64 (lane A 0 0) (round_constant i) (below_lane 0 0) (below_constant i)) h.at }

below_rounds : (n : ℕ) {A : List ℕ} → Below (2 ^ 64) A → Below (2 ^ 64) (rounds n A)
unfolding rounds round
below_rounds zero h = h
below_rounds (suc n) h = below_iota (below_chi (below_pi (below_rho (below_theta (below_rounds n h))))) n

pub below_keccak_f : {A : List ℕ} → Below (2 ^ 64) A → Below (2 ^ 64) (keccak_f A)
unfolding keccak_f
below_keccak_f h = below_rounds 24 h
