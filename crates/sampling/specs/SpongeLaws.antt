-- The streams in the sponge: what is squeezed after the mark and the inputs were absorbed is the stream.
--     stream_squeezed     n bytes squeezed from the fresh state of stream j that has absorbed the inputs
--     two_pieces          a message in two pieces
--     two_squeezed        bytes squeezed after two inputs were absorbed one after another
--     challenge_bytes     H: the high parts' bytes, G of the message and g, absorbed one after another
--     challenge_squeezed  the same where the bytes are those of the high parts
-- Assumes nothing.
use Rattle.std.specs.Prelude.{◌≡◌, List, ◌++◌, map, ℕ, ◌<◌, ℤ}
use Rattle.std.proofs.Common.{ap, ◌∙◌, arith}
use Rattle.whole.specs.Below.{Below}
use Rattle.whole.specs.BelowLaws.{below_cons, below_append, below_none}
use Rattle.whole.specs.Twos.{twos}
use Rattle.shake.specs.declared.Sponge.{Sponge}
use Rattle.shake.specs.Sponge.{blank, absorbed, squeezed}
use Rattle.shake.specs.Shake256.{shake256}
use Rattle.shake.specs.Pieces.{absorbed_absorbed}
use Rattle.shake.specs.Whole.{shake}
use Rattle.sets.specs.declared.Numbers.{Numbers}
use Rattle.sets.specs.Good.{Good}
use Rattle.sets.specs.Limits.{seed_bytes}
use Rattle.sets.specs.Marks.{stream_mark, fresh}
use Rattle.sampling.specs.Streams.{challenge}

-- a mark is two bytes
mark_below : (digit j : ℕ) → digit < 16 → j < 16 → Below 256 (stream_mark digit j)
mark_below digit j h l = below_cons (omega arith) (below_cons (omega arith) below_none)

pub stream_squeezed : (digit j : ℕ) (inputs : List ℕ) (n : ℕ) → digit < 16 → j < 16 → Below 256 inputs
    → squeezed n (absorbed (fresh digit j) inputs) ≡ shake256 (stream_mark digit j ++ inputs) n
unfolding fresh
stream_squeezed digit j inputs n h l b =
    ap (squeezed n) (absorbed_absorbed blank (stream_mark digit j) inputs)
    ∙ shake (stream_mark digit j ++ inputs) n (below_append 256 (stream_mark digit j) inputs (mark_below digit j h l) b)

-- the state after two pieces is the state after the two joined
pub two_pieces : (s : Sponge) (a b : List ℕ) {s₁ s₂ : Sponge} → s₁ ≡ absorbed s a → s₂ ≡ absorbed s₁ b → s₂ ≡ absorbed s (a ++ b)
two_pieces s a b first second = second ∙ ap (λ (t : Sponge). absorbed t b) first ∙ absorbed_absorbed s a b

-- two more inputs, one after another, and what is squeezed then
pub two_squeezed : (s : Sponge) (a b : List ℕ) {s₁ s₂ : Sponge} {n m : ℕ} {out : List ℕ}
    → s₁ ≡ absorbed s a → s₂ ≡ absorbed s₁ b → out ≡ squeezed n s₂ → n ≡ m → out ≡ squeezed m (absorbed (absorbed s a) b)
two_squeezed s a b {s₂ = s₂} {m = m} first second out enough =
    out ∙ ap (λ (k : ℕ). squeezed k s₂) enough ∙ ap (squeezed m) (second ∙ ap (λ (t : Sponge). absorbed t b) first)

-- three inputs, one after another
pub absorbed_three : (s : Sponge) (a b c : List ℕ) → absorbed (absorbed (absorbed s a) b) c ≡ absorbed s (a ++ b ++ c)
absorbed_three s a b c = ap (λ (t : Sponge). absorbed t c) (absorbed_absorbed s a b) ∙ absorbed_absorbed s (a ++ b) c

pub three_squeezed : (digit j : ℕ) (a b c : List ℕ) (n : ℕ) → digit < 16 → j < 16 → Below 256 a → Below 256 b → Below 256 c
    → squeezed n (absorbed (absorbed (absorbed (fresh digit j) a) b) c) ≡ shake256 (stream_mark digit j ++ (a ++ b ++ c)) n
three_squeezed digit j a b c n h l x y z =
    ap (squeezed n) (absorbed_three (fresh digit j) a b c)
    ∙ stream_squeezed digit j (a ++ b ++ c) n h l (below_append 256 (a ++ b) c (below_append 256 a b x y) z)

pub challenge_bytes : (digit : ℕ) (bytes digest g : List ℕ) → digit < 16 → Below 256 bytes → Below 256 digest → Below 256 g
    → squeezed seed_bytes (absorbed (absorbed (absorbed (fresh digit 6) bytes) digest) g) ≡ shake256 (stream_mark digit 6 ++ (bytes ++ digest ++ g)) seed_bytes
challenge_bytes digit bytes digest g h = three_squeezed digit 6 bytes digest g seed_bytes h (omega arith)

pub challenge_squeezed : (s : Numbers) → Good s → (highs : List ℤ) (bytes digest g : List ℕ) → bytes ≡ map (twos 8) highs
    → Below 256 bytes → Below 256 digest → Below 256 g
    → squeezed seed_bytes (absorbed (absorbed (absorbed (fresh s.digit 6) bytes) digest) g) ≡ challenge s highs digest g
unfolding challenge
challenge_squeezed s good highs bytes digest g e x y z =
    challenge_bytes s.digit bytes digest g good.digit_fits x y z
    ∙ ap (λ (l : List ℕ). shake256 (stream_mark s.digit 6 ++ (l ++ digest ++ g)) seed_bytes) e
