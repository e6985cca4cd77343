-- Two results that meet the contract of `permute` for the same lanes coincide.
-- Assumes nothing.
use mathlib.Core.List.{List}
use mathlib.Core.Path.{◌≡◌, sym, ◌∙◌}
use Prim.Native.Nat.{ℕ}
use Rattle.keccak.proofs.permute.Reads as permute

pub permute_determined : (lanes r r' : List ℕ) → permute.Learnt tt (lanes, tt) r (lanes, tt) → permute.Learnt tt (lanes, tt) r' (lanes, tt)
    → r ≡ r'
permute_determined lanes r r' e e' = e ∙ sym e'
