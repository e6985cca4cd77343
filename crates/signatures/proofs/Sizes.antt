-- |z| as the code takes it of the b bits that stand for z. Assumes nothing.
use Rattle.std.proofs.Common.{◌≡◌, ⊎_elim, ℕ, ◌*◌, ◌-◌, ◌%◌, ◌^◌, ◌<◌, min, nat_abs, List, length, get_or, arith}
use Rattle.std.proofs.lemmas.List.{get_or_default}
use Rattle.whole.specs.Int.{lt_or_le}
use Rattle.whole.specs.Twos.{signed}
use Rattle.whole.specs.TwosLaws.{halves, size_low, size_high}
use Rattle.whole.specs.Words.{one_shifted}
use Rattle.signatures.specs.Asks.{SizesBits, RangesBits}

module _ {b x : ℕ} (p : SizesBits b x) where
  -- x, or what it lacks to 2^b
  pub size_least : {n : ℕ} → n ≡ min x ((1 * 2 ^ b) % 2 ^ 32 - x) → n ≡ nat_abs (signed b x)
  size_least e =
      ⊎_elim (λ l. omega (arith, e, one_shifted 32 b p.narrow, halves b p.wide, size_low b x l))
      (λ m. omega (arith, e, one_shifted 32 b p.narrow, halves b p.wide, size_high b x p.below m)) (lt_or_le x (2 ^ (b - 1)))

-- each of the values may be asked for its size
pub size_asks : {b k x : ℕ} {xs : List ℕ} → RangesBits b xs → k < length xs → x ≡ get_or xs k x → SizesBits b x
size_asks {k = k} {x = x} {xs = xs} p l e =
    record { wide = p.wide; narrow = p.narrow; below = omega (arith, p.below.at k l, get_or_default xs k x 0 l) }
