-- What the functions of the envelope ask of their caller, as named records. Assumes nothing: these are definitions.
use Rattle.std.specs.Prelude.{◌≡◌, true, List, ℕ, ◌≤◌, length}
use Rattle.sets.specs.declared.Numbers.{Numbers}
use Rattle.sets.specs.Limits.{roster_limit}
use Rattle.records.specs.Layout.{marked, signature_bytes}
use Rattle.signatures.specs.Signature.{z_of, z_in_range}
use Rattle.envelope.specs.Envelope.{head_bytes, envelope_bytes}

-- what writing the team number and L asks: room for the head
pub record PutsNumbers (envelope : List ℕ) : Type 0 where
  pub room : head_bytes ≤ length envelope

-- what writing an envelope from a tested roster and signature record asks: all that writing's tests say
pub record Writable (s : Numbers) (roster signature : List ℕ) (envelope_length : ℕ) : Type 0 where
  pub signature_long : length signature ≡ signature_bytes s
  pub envelope_long : envelope_length ≡ envelope_bytes s (length roster)
  pub signature_mark : marked s 3 signature ≡ true
  pub short : length roster ≤ roster_limit
  pub z_passes : z_in_range s (z_of s signature) ≡ true
