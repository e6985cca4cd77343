-- Document 01's twelve sums: one table of statements about the definitions that the contracts cite, and one theorem that all
-- of them hold. Each entry is a computation, checked by running the definitions.
-- Assumes nothing.
use Rattle.std.specs.Prelude.{◌≡◌, refl, true, false, List, [], ◌∷◌, ◌++◌, map, ℕ, ◌-◌, ℤ, pos, neg_ℤ, nat_abs, take, replicate}
use Rattle.whole.specs.Residue.{residue}
use Rattle.whole.specs.Sum.{sum}
use Rattle.whole.specs.Table.{table, row}
use Rattle.whole.specs.Twos.{signed, twos}
use Rattle.rounding.specs.Centred.{centred}
use Rattle.rounding.specs.Parts.{low, high}
use Rattle.rounding.specs.Tests.{low_passes, size_passes, z_passes}
use Rattle.ring.specs.Product.{mul, turn}
use Rattle.ring.specs.Lists.{integers}
use Rattle.ring.specs.Largest.{largest, sizes, sum_passes, places, push, added}
use Rattle.packing.specs.Digits.{packed, digits, value}
use Rattle.sampling.specs.Values.{values, sum_10}
use Rattle.sampling.specs.Positions.{positions, coefficients, sum_11}
use Rattle.sets.specs.SetI.{set_i}
use Rattle.demands.specs.Facts.{All, ◌and◌}

abbrev minus : ℕ → ℤ
minus a = neg_ℤ (pos a)

-- x³ and x, of four coefficients
abbrev x³ : List ℤ
x³ = pos 0 ∷ pos 0 ∷ pos 0 ∷ pos 1 ∷ []

abbrev x : List ℤ
x = pos 0 ∷ pos 1 ∷ pos 0 ∷ pos 0 ∷ []

abbrev times : List ℤ → List ℤ → List ℤ
times f g = table 4 (mul 4 (integers f) (integers g))

-- twenty-four entries of 22, one of `other`, zeros: 1,024 bytes
abbrev spread : ℕ → List ℕ
spread other = replicate 24 22 ++ (other ∷ replicate (set_i.n - 25) 0)

unfoldable pub sums : List (Type 0)
sums =
    -- 1. centred by 17
    (map (centred 17) (pos 8 ∷ pos 9 ∷ pos 17 ∷ minus 9 ∷ []) ≡ pos 8 ∷ minus 8 ∷ pos 0 ∷ pos 8 ∷ [])
    -- 2. centred by 16
    ∷ (map (centred 16) (pos 8 ∷ pos 9 ∷ minus 8 ∷ []) ≡ pos 8 ∷ minus 7 ∷ pos 8 ∷ [])
    -- 3. set I, at half a step
    ∷ ((low set_i.q set_i.d (pos 2097152) ≡ pos 2097152) × (high set_i.q set_i.d (pos 2097152) ≡ pos 0)
    × (low set_i.q set_i.d (pos 2097153) ≡ minus 2097151) × (high set_i.q set_i.d (pos 2097153) ≡ pos 1))
    -- 4. set I, at floor(q/2)
    ∷ ((low set_i.q set_i.d (pos 171788288) ≡ minus 178176) × (high set_i.q set_i.d (pos 171788288) ≡ pos 41)
    × (high set_i.q set_i.d (pos 171788289) ≡ minus 41))
    -- 5. n = 4: (1, 2, 3, 4) times x, and x³ times x³
    ∷ ((times (pos 1 ∷ pos 2 ∷ pos 3 ∷ pos 4 ∷ []) x ≡ minus 4 ∷ pos 1 ∷ pos 2 ∷ pos 3 ∷ [])
    × (times x³ x³ ≡ pos 0 ∷ pos 0 ∷ minus 1 ∷ pos 0 ∷ []))
    -- 6. h = 2
    ∷ (largest 2 (map nat_abs (pos 3 ∷ minus 5 ∷ pos 2 ∷ pos 4 ∷ [])) ≡ 9)
    -- 7. 554 passes, 555 is refused: checkE with E, and checkS with S
    ∷ ((largest set_i.h (sizes (spread 26)) ≡ 554) × (largest set_i.h (sizes (spread 27)) ≡ 555)
    × (sum_passes set_i.h set_i.e (spread 26) ≡ true) × (sum_passes set_i.h set_i.e (spread 27) ≡ false)
    × (sum_passes set_i.h set_i.s (spread 26) ≡ true) × (sum_passes set_i.h set_i.s (spread 27) ≡ false))
    -- 8. t = 1, 1 at 29 bits begin 01 00 00 20
    ∷ (take 4 (packed 29 (1 ∷ 1 ∷ [])) ≡ 0x01 ∷ 0x00 ∷ 0x00 ∷ 0x20 ∷ [])
    -- 9. z = −1, 0 at 20 bits
    ∷ (packed 20 (map (twos 20) (minus 1 ∷ pos 0 ∷ [])) ≡ 0xFF ∷ 0xFF ∷ 0x0F ∷ 0x00 ∷ 0x00 ∷ [])
    -- 10. range 5, three needed
    ∷ (values 5 3 (6 ∷ 7 ∷ 2 ∷ 5 ∷ 1 ∷ []) ≡ 2 ∷ 0 ∷ 1 ∷ [])
    -- 11. n = 8, h = 3, candidates 3+, 3−, 5+: x³ − x⁴ + x⁵
    ∷ (coefficients 8 (positions 8 3 []
    (record { position = 3; sign = pos 1 } ∷ record { position = 3; sign = minus 1 } ∷ record { position = 5; sign = pos 1 } ∷ []))
    ≡ pos 0 ∷ pos 0 ∷ pos 0 ∷ pos 1 ∷ minus 1 ∷ pos 1 ∷ pos 0 ∷ pos 0 ∷ [])
    -- 12. the tests' edges in set I
    ∷ ((low set_i.q set_i.d (pos 2096598) ≡ pos 2096598)
    × (map (λ (w : ℤ). low_passes set_i.q set_i.d set_i.e w) (pos 2096597 ∷ pos 2096598 ∷ minus 2096597 ∷ minus 2096598 ∷ []) ≡ true ∷ false ∷ true ∷ false ∷ [])
    × (map (λ (w : ℤ). size_passes set_i.q set_i.e w) (pos 171787733 ∷ pos 171787734 ∷ minus 171787733 ∷ minus 171787734 ∷ []) ≡ true ∷ false ∷ true ∷ false ∷ [])
    × (map (z_passes (set_i.b - set_i.s)) (pos 523733 ∷ pos 523734 ∷ minus 523733 ∷ minus 523734 ∷ []) ≡ true ∷ false ∷ true ∷ false ∷ []))
    ∷ []

pub twelve_sums : All sums
unfolding sums residue sum row signed centred low high low_passes size_passes z_passes mul turn sum_passes places push added packed digits value
twelve_sums =
    refl
    and refl
    and (refl, refl, refl, refl)
    and (refl, refl, refl)
    and (refl, refl)
    and refl
    and (refl, refl, refl, refl, refl, refl)
    and refl
    and refl
    and sum_10
    and sum_11
    and (refl, refl, refl, refl)
    and tt
