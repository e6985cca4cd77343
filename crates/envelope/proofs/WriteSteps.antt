-- Writing an envelope: its pieces one after the other, and what its tests say.
-- Assumes nothing.
use mathlib.Core.Path.{◌≡◌, sym, refl, ◌∙◌}
use mathlib.Core.List.{List, ◌++◌, append_assoc}
use Prim.Native.Nat.{ℕ, ◌+◌, ◌≤◌}
use native.Mathlib.Omega.{arith}
use lib.ListN.{length, take, drop}
use Rattle.answers.specs.Tests.{Answered}
use Rattle.sets.specs.declared.Numbers.{Numbers}
use Rattle.sets.specs.SetI.{set_i}
use Rattle.sampling.specs.Streams.{two_bytes}
use Rattle.records.specs.Layout.{mark}
use Rattle.records.specs.Pieces.{standing_kept, standing_mark, standing_next, standing_copy, standing_all}
use Rattle.envelope.specs.Envelope.{envelope_kind, head_bytes, envelope_of, write_tests}
use Rattle.envelope.specs.EnvelopeLaws.{writable}
use Rattle.envelope.specs.Asks.{Writable}
use Rattle.envelope.specs.Promises.{WritesEnvelope}

-- both numbers, one after the other
pub numbers_put : (team len : ℕ) (old : List ℕ) {team_bytes lengthBytes mid new : List ℕ} → head_bytes ≤ length old
    → team_bytes ≡ two_bytes team → lengthBytes ≡ two_bytes len
    → mid ≡ take 2 old ++ (team_bytes ++ drop (2 + length team_bytes) old)
    → new ≡ take 4 mid ++ (lengthBytes ++ drop (4 + length lengthBytes) mid)
    → new ≡ take 2 old ++ ((two_bytes team ++ two_bytes len) ++ drop head_bytes old)
numbers_put team len old room t l a b =
    let w₁ = standing_kept 2 old (omega arith) in
    let w₂ = standing_copy w₁ (two_bytes team) refl refl (omega arith) (rw t at a) in
    let w₃ = standing_copy w₂ (two_bytes len) refl refl (omega arith) (rw l at b) in
    w₃.written.is ∙ rw w₃.long (append_assoc (take 2 old ++ two_bytes team) (two_bytes len) (drop head_bytes old) ∙ append_assoc (take 2 old) (two_bytes team) (two_bytes len ++ drop head_bytes old))

-- the mark, both numbers, the roster and the signature record one after the other
pub put_is : {s : Numbers} (team : ℕ) (old : List ℕ) {roster signature marks numbers first second : List ℕ} → Writable s roster signature (length old)
    → marks ≡ mark s envelope_kind ++ drop 2 old
    → numbers ≡ take 2 marks ++ ((two_bytes team ++ two_bytes (length roster)) ++ drop head_bytes marks)
    → first ≡ take head_bytes numbers ++ (roster ++ drop (head_bytes + length roster) numbers)
    → second ≡ take (head_bytes + length roster) first ++ (signature ++ drop (head_bytes + length roster + length signature) first)
    → second ≡ envelope_of s team roster signature
unfolding envelope_of
put_is {s} team old {roster} {signature} w a b c d =
    let w₁ = standing_mark s envelope_kind old (omega (arith, w.envelope_long)) a in
    let w₂ = standing_next w₁ (two_bytes team ++ two_bytes (length roster)) refl refl (omega (arith, w.envelope_long)) b in
    let w₃ = standing_copy w₂ roster refl refl (omega (arith, w.envelope_long)) c in
    let w₄ = standing_copy w₃ signature refl refl (omega (arith, w.envelope_long, w.signature_long)) d in
    standing_all w₄ (omega (arith, w.envelope_long, w.signature_long)) ∙ simp append_assoc

-- a roster, a signature record and an envelope that pass the tests
pub write_puts : {s : Numbers} {roster signature : List ℕ} {envelope_length : ℕ}
    → Answered (write_tests s roster signature envelope_length) 0 → Writable s roster signature envelope_length
write_puts {s} {roster} {signature} {envelope_length} a = writable s roster signature envelope_length (sym a.is)

pub writes_i : {s : Numbers} {team number : ℕ} {roster signature old new : List ℕ} → s ≡ set_i
    → WritesEnvelope s team roster signature old new number → WritesEnvelope set_i team roster signature old new number
writes_i e w = rw e at w
