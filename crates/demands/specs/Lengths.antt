-- The lengths, marks and derived numbers of set I, as document 01 has them and document 02 changes them: one table of equations about the
-- definitions that the contracts cite, and one theorem that all of them hold.
-- Assumes nothing.
use Rattle.std.specs.Prelude.{◌≡◌, refl, List, [], ◌∷◌, map, ℕ, ◌+◌, ◌-◌, ◌/◌, ℤ, take}
use Rattle.std.proofs.Common.{arith}
use Rattle.sets.specs.Limits.{message_limit, roster_limit}
use Rattle.sets.specs.SetI.{set_i}
use Rattle.shake.specs.Shake256.{shake256}
use Rattle.sampling.specs.Streams.{stream}
use Rattle.records.specs.Layout.{t_bytes, public_bytes, secret_bytes, signature_bytes}
use Rattle.records.specs.Public.{public_record}
use Rattle.records.specs.Secret.{secret_record}
use Rattle.signatures.specs.Signature.{signature_record}
use Rattle.envelope.specs.Envelope.{envelope_bytes, envelope_of}
use Rattle.demands.specs.Facts.{All, ◌and◌}

unfoldable pub lengths : List (Type 0)
lengths =
    -- the public, the secret and the signature record, an envelope around a roster of L bytes, and the longest
    (public_bytes set_i ≡ 14882)
    ∷ (secret_bytes set_i ≡ 5226)
    ∷ (signature_bytes set_i ≡ 2594)
    ∷ ((L : ℕ) → envelope_bytes set_i L ≡ 2600 + L)
    ∷ (envelope_bytes set_i roster_limit ≡ 35366)
    -- the two limits
    ∷ (message_limit ≡ 32768)
    ∷ (roster_limit ≡ 32766)
    -- one packed t_i
    ∷ (t_bytes set_i ≡ 3712)
    -- the marks that the four records begin with
    ∷ ((t seed_a : List ℕ) → take 2 (public_record set_i t seed_a) ≡ 0x51 ∷ 0x11 ∷ [])
    ∷ ((s e seed_a seed_y g : List ℕ) → take 2 (secret_record set_i s e seed_a seed_y g) ≡ 0x51 ∷ 0x12 ∷ [])
    ∷ ((z : List ℤ) (c' : List ℕ) → take 2 (signature_record set_i z c') ≡ 0x51 ∷ 0x13 ∷ [])
    ∷ ((team : ℕ) (roster signature : List ℕ) → take 2 (envelope_of set_i team roster signature) ≡ 0x51 ∷ 0x15 ∷ [])
    -- the marks that the seven streams begin with: a, y, rand, G, g, H, Enc
    ∷ ((inputs : List ℕ) (n : ℕ) → map (λ j. stream set_i j inputs n) (1 ∷ 2 ∷ 3 ∷ 4 ∷ 5 ∷ 6 ∷ 7 ∷ [])
    ≡ shake256 (0x53 ∷ 0x11 ∷ inputs) n
    ∷ shake256 (0x53 ∷ 0x12 ∷ inputs) n
    ∷ shake256 (0x53 ∷ 0x13 ∷ inputs) n
    ∷ shake256 (0x53 ∷ 0x14 ∷ inputs) n
    ∷ shake256 (0x53 ∷ 0x15 ∷ inputs) n
    ∷ shake256 (0x53 ∷ 0x16 ∷ inputs) n
    ∷ shake256 (0x53 ∷ 0x17 ∷ inputs) n
    ∷ [])
    -- floor(q/2), and B − S
    ∷ (set_i.q / 2 ≡ 171788288)
    ∷ (set_i.b - set_i.s ≡ 523733)
    ∷ []

pub lengths_hold : All lengths
unfolding lengths public_record secret_record signature_record envelope_of
lengths_hold =
    refl
    and refl
    and refl
    and (λ L. omega arith)
    and refl
    and refl
    and refl
    and refl
    and (λ t seed_a. refl)
    and (λ s e seed_a seed_y g. refl)
    and (λ z c'. refl)
    and (λ team roster signature. refl)
    and (λ inputs n. refl)
    and refl
    and refl
    and tt
