-- The candidate rules over a lent stream, with any number needed, up to the candidates that the stream holds, else refusal 1.
-- Trailing bytes short of a candidate are not read. The widths and ranges are the set's.
-- Assumes nothing: these are definitions.
use Rattle.std.specs.Prelude.{List, [], ◌∷◌, map, ℕ, ◌+◌, ◌*◌, leb, eqb, ℤ}
use Rattle.answers.specs.Tests.{Test, ◌or_else◌}
use Rattle.sets.specs.declared.Numbers.{Numbers}
use Rattle.sampling.specs.Candidates.{held, candidates}
use Rattle.sampling.specs.Values.{values, less_of}
use Rattle.sampling.specs.Positions.{Drawn, places_of}

-- ---- values for a: candidates of 4 bytes, low t_bits bits, range q

abbrev pub tests_a : List ℕ → ℕ → List Test
tests_a stream need = (leb need (held 4 stream) or_else 1) ∷ []

unfoldable pub lent_a : Numbers → List ℕ → ℕ → List ℕ
lent_a s stream need = values s.q need (candidates 4 s.t_bits stream)

-- ---- values for y: candidates of 3 bytes, low z_bits bits, range 2B + 1, each value less B

abbrev pub tests_y : List ℕ → ℕ → List Test
tests_y stream need = (leb need (held 3 stream) or_else 1) ∷ []

unfoldable pub lent_y : Numbers → List ℕ → ℕ → List ℤ
lent_y s stream need = map (less_of s.b) (values (2 * s.b + 1) need (candidates 3 s.z_bits stream))

-- ---- positions with signs: candidates of 3 bytes, low position_bits bits; no more than n are needed, and as many signs

abbrev pub tests_enc : Numbers → List ℕ → ℕ → ℕ → List Test
tests_enc s stream need signs = (eqb signs need or_else 1) ∷ (leb need (held 3 stream) or_else 1) ∷ (leb need s.n or_else 1) ∷ []

unfoldable pub lent_enc : Numbers → List ℕ → ℕ → List Drawn
lent_enc s stream need = places_of s.n s.position_bits need stream
