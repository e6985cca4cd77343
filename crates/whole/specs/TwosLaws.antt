-- Laws of two's complement: the round trips. Assumes nothing.
use Rattle.std.specs.Prelude.{◌≡◌, ℕ, zero, suc, ◌*◌, ◌-◌, ◌^◌, ◌≤◌, ◌<◌, ◌⊎◌, List, [], ◌∷◌, map, ℤ, pos, negsuc, nat_abs, ◌-ℤ◌}
use Rattle.std.proofs.Common.{ap, ◌∙◌, inl, inr, ⊎_elim, mod-eq_of_lt, arith, pow_pos, lt-ltb, le-ltb}
use Rattle.std.proofs.Math.Nat.{pow-succ'}
use Rattle.whole.specs.Int.{up, down, int, minus_is, abs_is, one_part, lt_or_le, less_one}
use Rattle.whole.specs.Residue.{residue}
use Rattle.whole.specs.ResidueLaws.{residue_is, residue_small, residue_lt, same_back}
use Rattle.whole.specs.Below.{Below}
use Rattle.whole.specs.BelowLaws.{below_none, below_cons}
use Rattle.whole.specs.Twos.{signed, twos, InBits}

pub halves : (b : ℕ) → 0 < b → 2 ^ b ≡ 2 * 2 ^ (b - 1)
halves zero h = absurd (omega arith)
halves (suc b) h = rw (less_one b) (pow-succ' 2 b)

pub signed_low : (b x : ℕ) → x < 2 ^ (b - 1) → signed b x ≡ pos x
unfolding signed
signed_low b x h = rw (lt-ltb x (2 ^ (b - 1)) h)

pub signed_high : (b x : ℕ) → 2 ^ (b - 1) ≤ x → signed b x ≡ pos x -ℤ pos (2 ^ b)
unfolding signed
signed_high b x h = rw (le-ltb x (2 ^ (b - 1)) h)

pub twos_below : (b a : ℕ) → suc a ≤ 2 ^ b → twos b (negsuc a) ≡ 2 ^ b - suc a
unfolding residue
twos_below b a h = ap (λ (k : ℕ). 2 ^ b - suc k) (mod-eq_of_lt h)

pub signed_twos : (b : ℕ) (z : ℤ) → 0 < b → InBits b z → signed b (twos b z) ≡ z
signed_twos b (pos a) h r =
    rw (residue_small (2 ^ b) a (omega (arith, r.below, halves b h))) (signed_low b a r.below)
signed_twos b (negsuc a) h r = rw (twos_below b a fits) (signed_high b (2 ^ b - suc a) (omega (arith, r.above, halves b h)) ∙ back)
  where
    fits : suc a ≤ 2 ^ b
    fits = omega (arith, r.above, halves b h)

    back : pos (2 ^ b - suc a) -ℤ pos (2 ^ b) ≡ negsuc a
    back = omega (int, minus_is (pos (2 ^ b - suc a)) (pos (2 ^ b)), fits)

pub twos_signed : (b x : ℕ) → 0 < b → x < 2 ^ b → twos b (signed b x) ≡ x
twos_signed b x h l =
    ⊎_elim (λ lt. rw (signed_low b x lt) (residue_small (2 ^ b) x l)) (λ le. rw (signed_high b x le) (residue_is (2 ^ b) x (pos x -ℤ pos (2 ^ b)) l (same_back (2 ^ b) (pos x))))
    (lt_or_le x (2 ^ (b - 1)))

-- what b bits stand for is in their range
pub signed_range : (b x : ℕ) → 0 < b → x < 2 ^ b → InBits b (signed b x)
signed_range b x h l =
    ⊎_elim (λ lt. rw (signed_low b x lt) (record { above = omega arith; below = lt })) (λ le. rw (signed_high b x le) (negative le (one_part y)))
    (lt_or_le x (2 ^ (b - 1)))
  where
    y : ℤ
    y = pos x -ℤ pos (2 ^ b)

    negative : 2 ^ (b - 1) ≤ x → (up y ≡ 0) ⊎ (down y ≡ 0) → InBits b y
    negative le (inl e) =
        record {
          above = omega (arith, minus_is (pos x) (pos (2 ^ b)), halves b h);
          below = omega (arith, minus_is (pos x) (pos (2 ^ b)), halves b h);
        }
    negative le (inr e) = absurd (omega (arith, minus_is (pos x) (pos (2 ^ b)), halves b h))

-- |x| of what b bits stand for: the bits themselves without the sign, and what they lack to 2^b with it
pub size_low : (b x : ℕ) → x < 2 ^ (b - 1) → nat_abs (signed b x) ≡ x
size_low b x l = ap nat_abs (signed_low b x l)

pub size_high : (b x : ℕ) → x < 2 ^ b → 2 ^ (b - 1) ≤ x → nat_abs (signed b x) ≡ 2 ^ b - x
size_high b x h l = ap nat_abs (signed_high b x l) ∙ go (one_part y)
  where
    y : ℤ
    y = pos x -ℤ pos (2 ^ b)

    go : (up y ≡ 0) ⊎ (down y ≡ 0) → nat_abs y ≡ 2 ^ b - x
    go (inl e) = omega (arith, abs_is y, minus_is (pos x) (pos (2 ^ b)))
    go (inr e) = omega (arith, abs_is y, minus_is (pos x) (pos (2 ^ b)))

-- a signed byte is at most 128 in size
pub signed_size : (b : ℕ) → b < 2 ^ 8 → nat_abs (signed 8 b) ≤ 128
signed_size b l =
    ⊎_elim (λ e. omega (arith, abs_is (signed 8 b), r.above, r.below)) (λ e. omega (arith, abs_is (signed 8 b), r.above, r.below)) (one_part (signed 8 b))
  where
    r : InBits 8 (signed 8 b)
    r = signed_range 8 b (omega arith) l

-- the bits of each number of a list
pub twos_all_below : (b : ℕ) (zs : List ℤ) → Below (2 ^ b) (map (twos b) zs)
twos_all_below b [] = below_none
twos_all_below b (z ∷ zs) = below_cons (residue_lt (2 ^ b) z (pow_pos b)) (twos_all_below b zs)
