-- Laws of a number's two bytes, low first: they are bytes, they are the remainder and the quotient by 256, they give the number, and two
-- numbers of 16 bits with the same bytes are one.
-- Assumes nothing.
use Rattle.std.specs.Prelude.{◌≡◌, List, [], ◌∷◌, ℕ, ◌+◌, ◌*◌, ◌/◌, ◌%◌, ◌^◌, ◌<◌}
use Rattle.std.proofs.Common.{ap, ◌∙◌, arith}
use Rattle.whole.specs.Below.{Below}
use Rattle.whole.specs.BelowLaws.{below_cons, below_none}
use Rattle.sampling.specs.Streams.{two_bytes}

pub two_below : (x : ℕ) → Below 256 (two_bytes x)
two_below x = below_cons (omega arith) (below_cons (omega arith) below_none)

pub two_made : (x : ℕ) {bytes : List ℕ} → x < 2 ^ 16 → bytes ≡ (x % 256) ∷ (x / 256) ∷ [] → bytes ≡ two_bytes x
two_made x small e = e ∙ ap (λ (b : ℕ). (x % 256) ∷ b ∷ []) high
  where
    high : x / 256 ≡ x / 256 % 256
    high = omega arith

pub two_number : (x : ℕ) → x < 65536 → x % 256 + 256 * (x / 256 % 256) ≡ x
two_number x h = omega arith

-- and a number of two bytes has those
pub two_back : (low high : ℕ) → low < 256 → high < 256 → two_bytes (low + 256 * high) ≡ low ∷ high ∷ []
two_back low high l h = ap (λ (x : ℕ). x ∷ (low + 256 * high) / 256 % 256 ∷ []) first ∙ ap (λ (x : ℕ). low ∷ x ∷ []) second
  where
    first : (low + 256 * high) % 256 ≡ low
    first = omega arith

    second : (low + 256 * high) / 256 % 256 ≡ high
    second = omega arith

pub two_one : (x y : ℕ) → x < 65536 → y < 65536 → x % 256 ≡ y % 256 → x / 256 % 256 ≡ y / 256 % 256 → x ≡ y
two_one x y h l e f = omega arith
