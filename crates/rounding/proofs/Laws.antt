-- What the code computes on residues is what the definitions say. Assumes nothing.
use mathlib.Core.Path.{◌≡◌, refl, sym, ap, subst, ◌∙◌}
use mathlib.Core.Logic.{◌⊎◌, inl, inr, ⊎_elim}
use Prim.Native.Nat.{ℕ, suc, ◌+◌, ◌*◌, ◌-◌, ◌/◌, ◌%◌, ◌^◌, ◌≤◌, ◌<◌}
use native.Mathlib.Nat.{mod-lt, div-add-mod, mul-one}
use native.Mathlib.Omega.{arith}
use lib.Pow.{pow_pos, pow-lt}
use lib.Bits.{bit_and, and_mask}
use lib.IntN.{ℤ, pos, negsuc, neg_ℤ, nat_abs, ◌+ℤ◌, ◌-ℤ◌, ◌*ℤ◌}
use borrow.Author.Tests.{le-leb, lt-leb}
use mir.Syntax.{w32}
use mir.Val.{to_z, SFits}
use mir.Facts.{to_z_pos}
use Rattle.whole.specs.Int.{up, down, int, sum_is, minus_is, up_neg, down_neg, abs_is, abs_neg, one_part, lt_or_le, *ℤ-neg}
use Rattle.whole.specs.Residue.{residue, Same}
use Rattle.whole.specs.ResidueLaws.{same_refl, same_neg, same_trans}
use Rattle.whole.specs.TwosLaws.{halves}
use Rattle.rounding.specs.Centred.{centred, Central}
use Rattle.rounding.specs.CentredLaws.{centred_central, centred_same, centred_is, centred_self, central_abs}
use Rattle.rounding.specs.Parts.{low, high}
use Rattle.rounding.specs.PartsLaws.{high_is, low_central}
use Rattle.rounding.specs.Tests.{Rounds, Half}

-- ---- a residue's centred remainder

pub centred_low : (q v : ℕ) → v < q → v ≤ q / 2 → centred q (pos v) ≡ pos v
centred_low q v l h = centred_self q (pos v) (record { most = omega arith; least = omega arith })

pub centred_high : (q v : ℕ) → v < q → q / 2 < v → centred q (pos v) ≡ neg_ℤ (pos (q - v))
centred_high q v l h = centred_is q (pos v) (neg_ℤ (pos (q - v))) central below
  where
    m : ℤ
    m = neg_ℤ (pos (q - v))

    central : Central q m
    central =
        record {
          most = omega (arith, up_neg (pos (q - v)));
          least = omega (arith, down_neg (pos (q - v)));
        }

    below : Same q (pos v) m
    below = record { times = pos 1; is = omega (int, up_neg (pos (q - v)), down_neg (pos (q - v)), sum_is m (pos (q * 1)), mul-one q) }

-- ---- steps of m = 2 · half

pub half_small : (d : ℕ) → 0 < d → d < 31 → (0 < 2 ^ (d - 1)) × (2 ^ (d - 1) < 2 ^ 30)
half_small d h k = (pow_pos (d - 1), pow-lt {i = d - 1} {j = 30} (omega arith))

-- a − b is central where neither is further from the other than half
central_minus : (m half a b : ℕ) → m ≡ 2 * half → a ≤ b + half → b < a + half → Central m (pos a -ℤ pos b)
central_minus m half a b e h k = go (one_part (pos a -ℤ pos b))
  where
    go : (up (pos a -ℤ pos b) ≡ 0) ⊎ (down (pos a -ℤ pos b) ≡ 0) → Central m (pos a -ℤ pos b)
    go (inl z) = record { most = omega arith; least = omega (arith, minus_is (pos a) (pos b)) }
    go (inr z) = record { most = omega (arith, minus_is (pos a) (pos b)); least = omega arith }

-- u counted in whole steps, and the rest that is left: up, and down
up_rest : (m half u : ℕ) → m ≡ 2 * half → 0 < half → Central m (pos u -ℤ pos (m * ((u + (half - 1)) / m)))
up_rest m half u e h =
    let r : (u + (half - 1)) % m < m = mod-lt (u + (half - 1)) (omega arith) in
    let s = div-add-mod (u + (half - 1)) m in
    central_minus m half u (m * ((u + (half - 1)) / m)) e (omega arith) (omega arith)

down_rest : (m half u : ℕ) → m ≡ 2 * half → 0 < half → Central m (pos (m * ((u + half) / m)) -ℤ pos u)
down_rest m half u e h =
    let r : (u + half) % m < m = mod-lt (u + half) (omega arith) in
    let s = div-add-mod (u + half) m in
    central_minus m half (m * ((u + half) / m)) u e (omega arith) (omega arith)

-- ---- the high part

high_low : (q d v : ℕ) → 0 < d → v < q → v ≤ q / 2 → high q d (pos v) ≡ pos ((v + (2 ^ (d - 1) - 1)) / 2 ^ d)
high_low q d v hd l h =
    high_is q d (pos v) (pos v) (pos t) rest (record { most = omega arith; least = omega arith }) (same_refl q (pos v)) split
    (up_rest (2 ^ d) (2 ^ (d - 1)) v (halves d hd) (pow_pos (d - 1)))
  where
    t : ℕ
    t = (v + (2 ^ (d - 1) - 1)) / 2 ^ d

    rest : ℤ
    rest = pos v -ℤ pos (2 ^ d * t)

    split : pos v ≡ rest +ℤ pos (2 ^ d * t)
    split = omega (int, minus_is (pos v) (pos (2 ^ d * t)), sum_is rest (pos (2 ^ d * t)))

high_high : (q d v : ℕ) → 0 < d → v < q → q / 2 < v → high q d (pos v) ≡ neg_ℤ (pos ((q - v + 2 ^ (d - 1)) / 2 ^ d))
high_high q d v hd l h =
    high_is q d (pos v) (neg_ℤ (pos u)) (neg_ℤ (pos t)) rest
    (subst (Central q) (centred_high q v l h) (centred_central q (pos v) (omega arith)))
    (subst (Same q (pos v)) (centred_high q v l h) (centred_same q (pos v) (omega arith)))
    split
    (down_rest (2 ^ d) (2 ^ (d - 1)) u (halves d hd) (pow_pos (d - 1)))
  where
    u : ℕ
    u = q - v

    t : ℕ
    t = (u + 2 ^ (d - 1)) / 2 ^ d

    rest : ℤ
    rest = pos (2 ^ d * t) -ℤ pos u

    stepped : neg_ℤ (pos u) ≡ rest +ℤ neg_ℤ (pos (2 ^ d * t))
    stepped =
        omega (int, up_neg (pos u), down_neg (pos u), minus_is (pos (2 ^ d * t)) (pos u), sum_is rest (neg_ℤ (pos (2 ^ d * t))), up_neg (pos (2 ^ d * t)), down_neg (pos (2 ^ d * t)))

    split : neg_ℤ (pos u) ≡ rest +ℤ pos (2 ^ d) *ℤ neg_ℤ (pos t)
    split = stepped ∙ ap (λ (x : ℤ). rest +ℤ x) (sym (*ℤ-neg (pos (2 ^ d)) (pos t)))

-- by the half step that the code has made
module _ {q d v half : ℕ} (r : Rounds q d v) (e : Half d half) where
  pub high_of_low : v ≤ q / 2 → SFits w32 (pos ((v + (half - 1)) / 2 ^ d)) → to_z w32 ((v + (half - 1)) / 2 ^ d) ≡ high q d (pos v)
  high_of_low l f = to_z_pos w32 f.sfits ∙ rw e.is (sym (high_low q d v r.step r.residue l))

  pub high_of_high : {h : ℤ} → q / 2 < v → h ≡ neg_ℤ (pos ((q - v + half) / 2 ^ d)) → h ≡ high q d (pos v)
  high_of_high l f = f ∙ rw e.is (sym (high_high q d v r.step r.residue l))

-- ---- the low part's size: that of the centred remainder's size

same_size : (m : ℕ) (z : ℤ) → 0 < m → nat_abs (centred m (neg_ℤ z)) ≡ nat_abs (centred m z)
same_size m z h = ⊎_elim inside at_half (lt_or_le (2 * up c) m)
  where
    c : ℤ
    c = centred m z

    central : Central m c
    central = centred_central m z h

    inside : 2 * up c < m → nat_abs (centred m (neg_ℤ z)) ≡ nat_abs c
    inside l =
        ap nat_abs
        (centred_is m (neg_ℤ z) (neg_ℤ c)
        (record { most = omega (arith, up_neg c, central.least); least = omega (arith, down_neg c) })
        (same_neg (centred_same m z h)))
        ∙ abs_neg c

    at_half : m ≤ 2 * up c → nat_abs (centred m (neg_ℤ z)) ≡ nat_abs c
    at_half l = ap nat_abs (centred_is m (neg_ℤ z) c central (same_trans (same_neg (centred_same m z h)) turned))
      where
        no_down : (up c ≡ 0) ⊎ (down c ≡ 0) → down c ≡ 0
        no_down (inl e) = absurd (omega arith)
        no_down (inr e) = e

        turned : Same m (neg_ℤ c) c
        turned =
            record {
              times = negsuc 0;
              is = omega (int, up_neg c, down_neg c, sum_is c (neg_ℤ (pos (m * 1))), up_neg (pos (m * 1)), down_neg (pos (m * 1)), mul-one m, central.most, no_down (one_part c));
            }

low_size : (q d : ℕ) (v : ℤ) → nat_abs (low q d v) ≡ nat_abs (centred (2 ^ d) (pos (nat_abs (centred q v))))
unfolding low
low_size q d v = go (centred q v)
  where
    go : (c : ℤ) → nat_abs (centred (2 ^ d) c) ≡ nat_abs (centred (2 ^ d) (pos (nat_abs c)))
    go (pos n) = refl
    go (negsuc n) = same_size (2 ^ d) (pos (suc n)) (pow_pos d)

size_near : (m u : ℕ) → u % m ≤ m / 2 → nat_abs (centred m (pos u)) ≡ u % m
unfolding centred residue
size_near m u h = rw (le-leb (u % m) (m / 2) h)

size_far : (m u : ℕ) → 0 < m → m / 2 < u % m → nat_abs (centred m (pos u)) ≡ m - u % m
unfolding centred residue
size_far m u h k = rw (lt-leb (u % m) (m / 2) k) (⊎_elim (λ e. omega (arith, is, size, mod-lt u h)) (λ e. omega (arith, is, size, mod-lt u h)) (one_part y))
  where
    y : ℤ
    y = pos (u % m) -ℤ pos m

    is : up y + (0 + m) ≡ u % m + 0 + down y
    is = minus_is (pos (u % m)) (pos m)

    size : nat_abs y ≡ up y + down y
    size = abs_is y

-- ---- the low part's size from the bits below the step

module _ (q d w half u : ℕ) (hd : 0 < d) (he : half ≡ 2 ^ (d - 1)) (ue : u ≡ nat_abs (centred q (pos w))) where
  step : half + half ≡ 2 ^ d
  step = omega (arith, halves d hd)

  masked : bit_and u (half + half - 1) ≡ u % 2 ^ d
  masked = rw step (and_mask u d)

  size : nat_abs (low q d (pos w)) ≡ nat_abs (centred (2 ^ d) (pos u))
  size = low_size q d (pos w) ∙ ap (λ (x : ℕ). nat_abs (centred (2 ^ d) (pos x))) (sym ue)

  pub low_near : bit_and u (half + half - 1) ≤ half → bit_and u (half + half - 1) ≡ nat_abs (low q d (pos w))
  low_near h = masked ∙ sym (size ∙ size_near (2 ^ d) u (omega (arith, masked, step)))

  pub low_far : half < bit_and u (half + half - 1) → half + half - bit_and u (half + half - 1) ≡ nat_abs (low q d (pos w))
  low_far h = omega (arith, masked, step, size, size_far (2 ^ d) u (pow_pos d) (omega (arith, masked, step)))

-- ---- both sizes leave room for a bound below 2^31

pub low_fits : {q d w r : ℕ} → Rounds q d w → r ≡ nat_abs (low q d (pos w)) → r < 2 ^ 31
low_fits {q} {d} {w} p e =
    omega (arith, central_abs (2 ^ d) (low q d (pos w)) (low_central q d (pos w)), halves d p.step, half_small d p.step p.fits)

pub size_fits : {q w r : ℕ} → (w < q) × (q < 2 ^ 31) → r ≡ nat_abs (centred q (pos w)) → r < 2 ^ 31
size_fits {q} {w} p e = omega (arith, central_abs q (centred q (pos w)) (centred_central q (pos w) (omega arith)))
