-- The streams as the code makes them: a fresh state, inputs absorbed one after another, and what is squeezed or drawn then.
--     message_closed, joined_digested       G of a message
--     key_digested, rand_made               g and rand
--     y_started, y_drawn, enc_drawn         y and c
-- Assumes nothing.
use mathlib.Core.Path.{◌≡◌, ap, ◌∙◌}
use mathlib.Core.List.{List, ◌++◌, map}
use Prim.Native.Nat.{ℕ, ◌+◌, ◌*◌}
use native.Mathlib.Omega.{arith}
use lib.IntN.{ℤ}
use Rattle.whole.specs.Below.{Below}
use Rattle.whole.specs.BelowLaws.{below_append}
use Rattle.shake.specs.declared.Sponge.{Sponge}
use Rattle.shake.specs.Sponge.{absorbed, squeezed}
use Rattle.sets.specs.declared.Numbers.{Numbers}
use Rattle.sets.specs.Good.{Good}
use Rattle.sets.specs.Limits.{seed_bytes, digest_bytes}
use Rattle.sets.specs.Marks.{fresh}
use Rattle.sampling.specs.Candidates.{candidates}
use Rattle.sampling.specs.Values.{values, less_of}
use Rattle.sampling.specs.Positions.{places_of, AreDrawn}
use Rattle.sampling.specs.Streams.{two_bytes, y_of, rand_of, message_digest, key_digest, enc_of}
use Rattle.sampling.specs.SpongeLaws.{stream_squeezed, two_pieces, three_squeezed}
use Rattle.sampling.specs.TwoBytesLaws.{two_below}
use Rattle.sampling.specs.Promises.{ClosesMessage}

-- ---- G of a message

pub message_closed : {set : Numbers} {state : Sponge} {out : List ℕ} {n : ℕ} → Good set → out ≡ squeezed n state → n ≡ digest_bytes → ClosesMessage set state out
unfolding message_digest
message_closed {set} {state} {out} good e long =
    record {
      bytes = bytes;
      is = λ message below f. bytes ∙ ap (squeezed digest_bytes) f ∙ stream_squeezed set.digit 4 message digest_bytes good.digit_fits (omega arith) below;
    }
  where
    bytes : out ≡ squeezed digest_bytes state
    bytes = rw long at e

-- in two pieces
pub joined_digested : {set : Numbers} {s₀ s₁ s₂ : Sponge} {front rest out : List ℕ} → ClosesMessage set s₂ out → s₀ ≡ fresh set.digit 4
    → s₁ ≡ absorbed s₀ front → s₂ ≡ absorbed s₁ rest → Below 256 front → Below 256 rest → out ≡ message_digest set (front ++ rest)
joined_digested {set} {front = front} {rest} closed e f g x y =
    closed.is (front ++ rest) (below_append 256 front rest x y) (two_pieces (fresh set.digit 4) front rest (rw e at f) g)

-- ---- g and rand

module _ {set : Numbers} (good : Good set) {s₀ s₁ : Sponge} where
  pub key_digested : {packed out : List ℕ} {n : ℕ} → s₀ ≡ fresh set.digit 5 → s₁ ≡ absorbed s₀ packed → out ≡ squeezed n s₁ → n ≡ digest_bytes
      → Below 256 packed → out ≡ key_digest set packed
  unfolding key_digest
  key_digested {packed} e f out long below =
      out ∙ rw (long, f, e) (stream_squeezed set.digit 5 packed digest_bytes good.digit_fits (omega arith) below)

  pub rand_made : {s₂ s₃ : Sponge} {a b c out : List ℕ} {n : ℕ} → s₀ ≡ fresh set.digit 3 → s₁ ≡ absorbed s₀ a → s₂ ≡ absorbed s₁ b → s₃ ≡ absorbed s₂ c
      → out ≡ squeezed n s₃ → n ≡ seed_bytes → Below 256 a → Below 256 b → Below 256 c → out ≡ rand_of set a b c
  unfolding rand_of
  rand_made {a = a} {b = b} {c = c} e f g h out long x y z =
      out ∙ rw (long, h, g, f, e) (three_squeezed set.digit 3 a b c seed_bytes good.digit_fits (omega arith) x y z)

-- ---- y

pub y_started : (digit counter : ℕ) (rand : List ℕ) {s₀ s₁ s₂ : Sponge} {bytes : List ℕ} → s₀ ≡ fresh digit 2 → s₁ ≡ absorbed s₀ rand
    → bytes ≡ two_bytes counter → s₂ ≡ absorbed s₁ bytes → s₂ ≡ absorbed (fresh digit 2) (rand ++ two_bytes counter)
y_started digit counter rand e first low_first second = two_pieces (fresh digit 2) rand (two_bytes counter) (rw e at first) (rw low_first at second)

module _ {set : Numbers} (good : Good set) where
  pub y_drawn : {state : Sponge} {rand : List ℕ} {out : List ℤ} (counter places : ℕ) → state ≡ absorbed (fresh set.digit 2) (rand ++ two_bytes counter)
      → out ≡ map (less_of set.b) (values (2 * set.b + 1) places (candidates 3 set.z_bits (squeezed (3 * (2 * places)) state)))
      → places ≡ set.n → Below 256 rand → out ≡ y_of set rand counter
  unfolding y_of
  y_drawn {state} {rand} counter places e out long below =
      out ∙ rw (long, e, stream_squeezed set.digit 2 (rand ++ two_bytes counter) (3 * (2 * set.n)) good.digit_fits (omega arith) bytes)
    where
      bytes : Below 256 (rand ++ two_bytes counter)
      bytes = below_append 256 rand (two_bytes counter) below (two_below counter)

-- ---- c

pub enc_drawn : {set : Numbers} {s₀ s₁ : Sponge} {c ps : List ℕ} {ss : List ℤ} (places : ℕ) → Good set → s₀ ≡ fresh set.digit 7 → s₁ ≡ absorbed s₀ c → places ≡ set.h
    → Below 256 c → AreDrawn (places_of set.n set.position_bits places (squeezed (3 * 256) s₁)) ps ss → AreDrawn (enc_of set c) ps ss
unfolding enc_of
enc_drawn {set} {c = c} places good e f long below drawn =
    rw (long, f, e, stream_squeezed set.digit 7 c (3 * 256) good.digit_fits (omega arith) below) at drawn
