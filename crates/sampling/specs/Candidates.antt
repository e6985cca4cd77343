-- Candidates: a stream cut into pieces of whole bytes, low byte first. Trailing bytes short of a candidate are not read.
-- Assumes nothing: these are definitions.
use Rattle.std.specs.Prelude.{Bool, true, false, List, ◌∷◌, ℕ, ◌*◌, ◌/◌, ◌%◌, ◌^◌, length, take, drop}
use Rattle.whole.specs.Table.{table}
use Rattle.packing.specs.Digits.{value}

-- v in front of vs if the candidate is taken
unfoldable pub emit : {A : Type 0} → Bool → A → List A → List A
emit true v vs = v ∷ vs
emit false v vs = vs

-- the candidates that a stream holds: its whole pieces of `size` bytes
abbrev pub held : ℕ → List ℕ → ℕ
held size stream = length stream / size

-- piece j of a stream, as a number
abbrev pub piece : ℕ → List ℕ → ℕ → ℕ
piece size stream j = value 8 (take size (drop (size * j) stream))

-- the candidates for values: the low `bits` bits of each piece
unfoldable pub candidates : ℕ → ℕ → List ℕ → List ℕ
candidates size bits stream = table (held size stream) (λ j. piece size stream j % 2 ^ bits)
