-- Stretches of lent bytes where the bytes are fewer, and the signature record as a stretch of what follows the head.
-- Assumes nothing.
use mathlib.Core.Path.{◌≡◌, ap, ap₂, ◌∙◌}
use mathlib.Core.List.{List}
use Prim.Native.Nat.{ℕ, ◌+◌}
use native.Mathlib.Omega.{arith}
use lib.ListN.{length, take, drop, length-drop}
use lib.Seq.{take_all, drop-drop}
use Rattle.sets.specs.declared.Numbers.{Numbers}
use Rattle.records.specs.Layout.{stretch, signature_bytes}
use Rattle.envelope.specs.Envelope.{head_bytes}

-- the signature record as a stretch of what follows the head
pub signature_after : (s : Numbers) (envelope : List ℕ) (len : ℕ) {size : ℕ} {body out : List ℕ} → size ≡ signature_bytes s
    → body ≡ stretch head_bytes (length envelope) envelope → out ≡ stretch len size body → out ≡ stretch (head_bytes + len) (signature_bytes s) envelope
signature_after s envelope len e f g =
    g ∙ ap₂ (stretch len) e (f ∙ take_all (length envelope) (drop head_bytes envelope) (omega (arith, length-drop head_bytes envelope)))
    ∙ ap (take (signature_bytes s)) (drop-drop len head_bytes envelope)
