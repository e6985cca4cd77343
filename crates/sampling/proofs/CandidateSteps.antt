-- What a candidate is: the number of its bytes, low byte first. And where it stands in a stretch.
-- Assumes nothing.
use mathlib.Core.Path.{◌≡◌, refl, sym, ap, ◌∙◌}
use native.Mathlib.Nat.{add_comm, mul-zero, mul-suc}
use mathlib.Core.List.{List, [], ◌∷◌}
use Prim.Native.Nat.{ℕ, zero, suc, ◌*◌, ◌%◌, ◌^◌, ◌≤◌, ◌<◌}
use native.Mathlib.Omega.{arith}
use lib.Pow.{pow_mono}
use Rattle.std.specs.Prelude.{fold, reverse, bit_or}
use Rattle.std.proofs.lemmas.Grind.{or_after_shift}
use Rattle.std.proofs.lemmas.List.Sums.{fold_push}
use Rattle.whole.specs.Below.{Below}
use Rattle.whole.specs.BelowLaws.{below_tail}
use Rattle.packing.specs.Laws.{value_below}
use lib.ListN.{length, get_or, take, drop}
use Rattle.std.proofs.lemmas.List.{drop-drop, reverse-append}
use Rattle.std.specs.Simd.{first_chunks}
use Rattle.packing.specs.Digits.{value}
use Rattle.sampling.specs.Candidates.{piece}

-- up to four bytes, from the last to the first, each behind those before it
pub low_first : (bytes : List ℕ) → Below 256 bytes → length bytes ≤ 4 → fold (λ v b. bit_or (v * 256 % 2 ^ 32) b) 0 (reverse bytes) ≡ value 8 bytes
unfolding value
low_first [] b l = refl
low_first (x ∷ xs) b l =
    ap (fold (λ v b. bit_or (v * 256 % 2 ^ 32) b) 0) (reverse-append (x ∷ []) xs) ∙ fold_push (λ v b. bit_or (v * 256 % 2 ^ 32) b) 0 (reverse xs) x
    ∙ rw (low_first xs (below_tail b) (omega arith), or_after_shift (value 8 xs) 256 (2 ^ 32) x refl (b.at 0 (omega arith)) small) (omega arith)
  where
    small : value 8 xs * 256 < 2 ^ 32
    small = omega (arith, value_below 8 xs (below_tail b), pow_mono {i = 8 * length xs} {j = 24} (omega arith))

-- piece j of those that a stretch is cut into
chunk_at : (size m j : ℕ) (stretch : List ℕ) (d : List ℕ) → j < m → get_or (first_chunks size m stretch) j d ≡ take size (drop (size * j) stretch)
chunk_at size zero j stretch d h = absurd (omega arith)
chunk_at size (suc m) zero stretch d h = ap (λ (k : ℕ). take size (drop k stretch)) (sym (mul-zero size))
chunk_at size (suc m) (suc j) stretch d h =
    chunk_at size m j (drop size stretch) d (omega arith)
    ∙ ap (take size) (drop-drop (size * j) size stretch ∙ ap (λ (k : ℕ). drop k stretch) (add_comm size (size * j) ∙ sym (mul-suc size j)))

-- its bytes, as a loop over the pieces has them, and the candidate that they are
module _ (size : ℕ) {m j : ℕ} (stretch : List ℕ) {bytes : List ℕ} (d : List ℕ) {pieces : List (List ℕ)} (at : bytes ≡ get_or pieces j d) (cut : pieces ≡ first_chunks size m stretch)
    (inside : j < length pieces) (many : length pieces ≡ m) where
  pub chunk_bytes : bytes ≡ take size (drop (size * j) stretch)
  chunk_bytes = at ∙ ap (λ (ps : List (List ℕ)). get_or ps j d) cut ∙ chunk_at size m j stretch d (omega arith)

  pub candidate_is : {c : ℕ} (bits : ℕ) → c ≡ value 8 bytes % 2 ^ bits → c ≡ piece size stretch j % 2 ^ bits
  candidate_is bits e = e ∙ ap (λ (bytes : List ℕ). value 8 bytes % 2 ^ bits) chunk_bytes
