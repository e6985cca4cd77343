-- The marks of the streams, and the fresh sponge states that have absorbed them.
-- Assumes nothing: these are definitions.
use Rattle.std.specs.Prelude.{List, [], ◌∷◌, ℕ, ◌+◌, ◌*◌}
use Rattle.shake.specs.Sponge.{blank, absorbed}
use Rattle.shake.specs.declared.Sponge.{Sponge}
use Rattle.sets.specs.declared.Stream.{Stream}
use Rattle.sets.specs.declared.Stream.TheVariants.{A, Y, Rand, Message, Key, Challenge, Enc}

-- the number of each stream
abbrev pub stream_number : Stream → ℕ
stream_number A = 1
stream_number Y = 2
stream_number Rand = 3
stream_number Message = 4
stream_number Key = 5
stream_number Challenge = 6
stream_number Enc = 7

-- the mark of stream j, 1 to 7, of the set with this digit: 53 11 to 53 17 in set I
abbrev pub stream_mark : ℕ → ℕ → List ℕ
stream_mark digit j = 0x53 ∷ (16 * digit + j) ∷ []

-- the state that has absorbed exactly that mark
unfoldable pub fresh : ℕ → ℕ → Sponge
fresh digit j = absorbed blank (stream_mark digit j)
