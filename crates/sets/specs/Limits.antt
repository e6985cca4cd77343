-- The lengths and limits that no set changes. Assumes nothing: these are definitions.
use Rattle.std.specs.Prelude.{ℕ}

-- seeds, r, rand and c' have 32 bytes, G of the message and g have 40
abbrev pub seed_bytes : ℕ
seed_bytes = 32

abbrev pub digest_bytes : ℕ
digest_bytes = 40

-- the longest message, in bytes
abbrev pub message_limit : ℕ
message_limit = 32768

-- the longest roster of an envelope, in bytes: the two of its team number are signed with it
abbrev pub roster_limit : ℕ
roster_limit = 32766

-- the largest budget
abbrev pub budget_limit : ℕ
budget_limit = 1024
