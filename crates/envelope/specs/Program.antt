-- What the program answers for its whole input: a public record, then an envelope.
-- Assumes nothing: these are definitions.
use Rattle.std.specs.Prelude.{List, ◌∷◌, ℕ, leb, length, take, drop}
use Rattle.answers.specs.Tests.{Test, ◌or_else◌}
use Rattle.sets.specs.SetI.{set_i}
use Rattle.records.specs.Layout.{public_bytes}
use Rattle.envelope.specs.Envelope.{open_tests}

-- what follows the public record
abbrev pub envelope_part : List ℕ → List ℕ
envelope_part input = drop (public_bytes set_i) input

-- fewer bytes than a public record has, then opening's tests
unfoldable pub program_tests : List ℕ → List Test
program_tests input = (leb (public_bytes set_i) (length input) or_else 1) ∷ open_tests set_i (take (public_bytes set_i) input) (envelope_part input)
