-- What the program holds of its input, and what opening it promises.
-- Assumes nothing: these are definitions.
use Rattle.std.specs.Prelude.{◌≡◌, List, ℕ, ◌≤◌, length, take}
use Rattle.envelope.specs.Program.{program_tests, envelope_part}
use Rattle.envelope.specs.Promises.{Opens}

-- what the program holds of its input at most, the length of `io::large_buffer`: more than a public record and any envelope
abbrev pub buffer_bytes : ℕ
buffer_bytes = 65536

-- what opening the n bytes that the buffer holds asks
pub record Buffered (buffer : List ℕ) (n : ℕ) : Type 0 where
  pub long : length buffer ≡ buffer_bytes
  pub inside : n ≤ length buffer

-- what comes back of what is held is what comes back of the whole input, whichever input it is the front of
pub record OpensWhole (held : List ℕ) (number team len : ℕ) : Type 0 where
  pub opens : (input : List ℕ) → held ≡ take buffer_bytes input → Opens (program_tests input) (envelope_part input) number team len
