-- What the functions of `constants` cite: the register's turns, a round's constant from its first bits, and a list of constants that
-- is filled three at a time.
-- Assumes nothing.
use Rattle.std.proofs.Common.{◌≡◌, ◌≢◌, refl, sym, ap, ◌∙◌, ℕ, suc, ◌+◌, ◌-◌, ◌*◌, ◌%◌, ◌^◌, ◌≤◌, ◌<◌, List, length, get_or, set, length-set, add_comm, le_of_suc-le-suc, mod-eq_of_lt, add-one, arith, pow_pos, pow_mono, shl_exact, below_more, get_or-set_same, get_or-set_other}
use Rattle.std.specs.Int.Bits.{bit_or}
use lib.Bits.{or_shifted_r}
use Rattle.keccak.specs.Constants.{turn, register, rc, constant_bits, round_constant}
use Rattle.keccak.proofs.Bounds.{bit_rc, below_place}

-- the first bit of the register after j turns of round i
first_bit : (i j : ℕ) → j + 7 * i < 255 → get_or (register (j + 7 * i)) 0 0 ≡ rc (j + 7 * i)
unfolding rc
first_bit i j small = ap (λ (t : ℕ). get_or (register t) 0 0) (sym (mod-eq_of_lt small))

-- 2 ^ j is at least 1, and 2 ^ j - 1 a place in a lane
pub small_place : (j : ℕ) → j < 7 → (0 < 2 ^ j) × (2 ^ j ≤ 64)
small_place j h = (pow_pos j, pow_mono {j = 6} (le_of_suc-le-suc h))

-- one more bit of the constant of round i, at the place p
pub bit_more : (i j : ℕ) {p bits : ℕ} {R : List ℕ} → i < 24 → j < 7 → p ≡ 2 ^ j - 1 → R ≡ register (j + 7 * i) → bits ≡ constant_bits j i
    → bit_or bits (get_or R 0 0 * 2 ^ p % 2 ^ 64) ≡ constant_bits (j + 1) i
bit_more i j hi hj hp h e =
    let k : ℕ = 2 ^ j - 1 in
    let small : j + 7 * i < 255 = omega arith in
    rw (add-one, hp, e, h, first_bit i j small, shl_exact 1 k 64 (bit_rc (j + 7 * i)) (omega (arith, small_place j hj)))
    (or_shifted_r (rc (j + 7 * i)) k (constant_bits j i) (below_place i j) ∙ add_comm (rc (j + 7 * i) * 2 ^ k) (constant_bits j i))

-- one turn more
pub turned : (i j : ℕ) {R R' : List ℕ} → R ≡ register (j + 7 * i) → R' ≡ turn R → R' ≡ register (j + 1 + 7 * i)
turned i j h e = e ∙ ap turn h ∙ ap register {x = suc (j + 7 * i)} (omega arith)

-- a list of 24 that has the constants of the rounds before i
pub record Filled (i : ℕ) (l : List ℕ) : Type 0 where
  pub long : length l ≡ 24
  pub at : (k : ℕ) → k < i → get_or l k 0 ≡ round_constant k

filled_more : (i : ℕ) {i' v : ℕ} {l : List ℕ} → i < 24 → i' ≡ i + 1 → v ≡ round_constant i → Filled i l → Filled i' (set l i v)
filled_more i {v = v} {l} h n e f =
    let here : i < length l = omega (arith, f.long) in
    rw n
    (record {
      long = length-set l i v ∙ f.long;
      at = below_more _ _ (λ k b. let other : k ≢ i = omega arith in rw get_or-set_other (f.at k b)) (rw get_or-set_same e);
    })

pub filled_three : (i : ℕ) {v v1 v2 : ℕ} {l : List ℕ} → i + 2 < 24 → Filled i l → v ≡ round_constant i → v1 ≡ round_constant (i + 1)
    → v2 ≡ round_constant (i + 2) → Filled (i + 3) (set (set (set l i v) (i + 1) v1) (i + 2) v2)
filled_three i h f e e1 e2 =
    filled_more (i + 2) h (omega arith) e2 (filled_more (i + 1) (omega arith) (omega arith) e1 (filled_more i (omega arith) refl e f))
