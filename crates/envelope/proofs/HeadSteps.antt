-- The head of an envelope: its total by a difference, and what a head that passed says of the parts.
-- Assumes nothing.
use mathlib.Core.Path.{◌≡◌, sym, ap, ◌∙◌}
use mathlib.Core.List.{List, [], ◌∷◌}
use Prim.Native.Nat.{ℕ, ◌+◌}
use native.Mathlib.Omega.{arith}
use lib.Dec.{eqb, leb}
use lib.ListN.{length}
use mir.Syntax.{w64}
use mir.Val.{Fits}
use Rattle.whole.specs.Parts.{part_length}
use Rattle.answers.specs.Tests.{◌or_else◌, Answered}
use Rattle.sets.specs.declared.Numbers.{Numbers}
use Rattle.sets.specs.Limits.{roster_limit}
use Rattle.sets.specs.SetI.{set_i}
use Rattle.records.specs.Layout.{stretch, signature_bytes}
use Rattle.signatures.specs.Asks.{LongSignature}
use Rattle.envelope.specs.Envelope.{head_bytes, envelope_bytes, length_of, head_tests}
use Rattle.envelope.specs.EnvelopeLaws.{envelope_total, envelope_short}

-- ---- the tests

-- those of L, as it was read
pub length_read : (s : Numbers) (envelope : List ℕ) {len number : ℕ} → len ≡ length_of envelope
    → Answered ((leb len roster_limit or_else 3) ∷ (eqb (length envelope) (envelope_bytes s len) or_else 1) ∷ []) number
    → Answered ((leb (length_of envelope) roster_limit or_else 3) ∷ (eqb (length envelope) (envelope_bytes s (length_of envelope)) or_else 1) ∷ []) number
length_read s envelope e a = rw e at a

pub head_i : {s : Numbers} (envelope : List ℕ) {number : ℕ} → s ≡ set_i → Answered (head_tests s envelope) number → Answered (head_tests set_i envelope) number
head_i envelope e a = rw e at a

-- the signature record of an envelope whose head passed is whole
pub head_signed : {s : Numbers} (envelope : List ℕ) {signature : List ℕ} {len : ℕ} → Answered (head_tests s envelope) 0
    → len ≡ length_of envelope → signature ≡ stretch (head_bytes + len) (signature_bytes s) envelope → LongSignature s signature
head_signed {s} envelope {len = len} a f g =
    let total = envelope_total s envelope (sym a.is) in
    record { long = ap length g ∙ part_length (head_bytes + len) (signature_bytes s) envelope (omega (arith, total)) }

-- and L is short enough for the two bytes of the team number to come before the roster
pub head_word : (s : Numbers) (envelope : List ℕ) {len : ℕ} → Answered (head_tests s envelope) 0 → len ≡ length_of envelope → Fits w64 (2 + len)
head_word s envelope a f = record { fits = omega (arith, envelope_short s envelope (sym a.is)) }
