-- Laws of xor that the kit lacks: it is associative, and a number is added to another (xor) by adding its low digits and then
-- its high ones.
-- Assumes nothing.
use Rattle.std.specs.Prelude.{◌≡◌, refl, ℕ, zero, suc, ◌+◌, ◌*◌, ◌/◌, ◌%◌, ◌^◌, ◌<◌}
use Rattle.std.proofs.Common.{ap, ◌∙◌, mod-lt, zero-lt-suc, add_comm, arith}
use Rattle.std.proofs.Math.Arith.{bin_ind}
use Rattle.std.specs.Int.Bits.{bit_xor, xor_shifted}
use Rattle.std.proofs.lemmas.Nat.{xor_shr, xor_mod, xor_comm}

-- of three digits
digit_assoc : (a b c : ℕ) → a < 2 → b < 2 → c < 2 → bit_xor (bit_xor a b) c ≡ bit_xor a (bit_xor b c)
digit_assoc zero b c h k l = refl
digit_assoc (suc zero) zero c h k l = refl
digit_assoc (suc zero) (suc zero) zero h k l = refl
digit_assoc (suc zero) (suc zero) (suc zero) h k l = refl
digit_assoc (suc zero) (suc zero) (suc (suc c)) h k l = absurd (omega arith)
digit_assoc (suc zero) (suc (suc b)) c h k l = absurd (omega arith)
digit_assoc (suc (suc a)) b c h k l = absurd (omega arith)

same_digits : (x y : ℕ) → x / 2 ≡ y / 2 → x % 2 ≡ y % 2 → x ≡ y
same_digits x y h l = omega arith

pub xor_assoc : (a b c : ℕ) → bit_xor (bit_xor a b) c ≡ bit_xor a (bit_xor b c)
xor_assoc =
    bin_ind (λ (a : ℕ). (b c : ℕ) → bit_xor (bit_xor a b) c ≡ bit_xor a (bit_xor b c)) (λ b c. refl)
    (λ a ih b c. same_digits (bit_xor (bit_xor a b) c) (bit_xor a (bit_xor b c)) (upper a b c (ih (b / 2) (c / 2))) (lowest a b c))
  where
    upper : (a b c : ℕ) → bit_xor (bit_xor (a / 2) (b / 2)) (c / 2) ≡ bit_xor (a / 2) (bit_xor (b / 2) (c / 2)) → bit_xor (bit_xor a b) c / 2 ≡ bit_xor a (bit_xor b c) / 2
    upper a b c e = rw (xor_shr (bit_xor a b) c 1, xor_shr a b 1, xor_shr a (bit_xor b c) 1, xor_shr b c 1) e

    lowest : (a b c : ℕ) → bit_xor (bit_xor a b) c % 2 ≡ bit_xor a (bit_xor b c) % 2
    lowest a b c =
        rw (xor_mod (bit_xor a b) c 1, xor_mod a b 1, xor_mod a (bit_xor b c) 1, xor_mod b c 1)
        (digit_assoc (a % 2) (b % 2) (c % 2) (mod-lt a (zero-lt-suc 1)) (mod-lt b (zero-lt-suc 1)) (mod-lt c (zero-lt-suc 1)))

-- low + high · 2^k, with low below 2^k, in two parts
pub xor_parts : (x low high k : ℕ) → low < 2 ^ k → bit_xor (bit_xor x low) (high * 2 ^ k) ≡ bit_xor x (low + high * 2 ^ k)
xor_parts x low high k h =
    xor_assoc x low (high * 2 ^ k)
    ∙ ap (bit_xor x) (xor_comm low (high * 2 ^ k) ∙ xor_shifted high k low h ∙ add_comm (high * 2 ^ k) low)
