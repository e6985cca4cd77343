-- The envelope: its mark, the team number and the roster's length L in two bytes each, low first, the roster, the signature record.
-- The signed message is the two bytes of the team number, then the roster.
-- Assumes nothing: these are definitions.
use Rattle.std.specs.Prelude.{List, [], ◌∷◌, ◌++◌, ℕ, ◌+◌, ◌*◌, eqb, leb, length, get_or}
use Rattle.answers.specs.Tests.{Test, ◌or_else◌, after}
use Rattle.sets.specs.declared.Numbers.{Numbers}
use Rattle.sets.specs.Limits.{roster_limit}
use Rattle.sampling.specs.Streams.{two_bytes}
use Rattle.records.specs.Layout.{mark, marked, stretch, signature_bytes}
use Rattle.signatures.specs.Signature.{z_of, z_in_range}
use Rattle.checking.specs.Check.{check_tests}

-- which record it is: its mark is 51 15 in set I. 51 14 was that of envelopes whose team number was not signed, and marks none now
abbrev pub envelope_kind : ℕ
envelope_kind = 5

-- the bytes before the roster
abbrev pub head_bytes : ℕ
head_bytes = 6

abbrev pub envelope_bytes : Numbers → ℕ → ℕ
envelope_bytes s L = head_bytes + (L + signature_bytes s)

unfoldable pub envelope_of : Numbers → ℕ → List ℕ → List ℕ → List ℕ
envelope_of s team roster signature = mark s envelope_kind ++ (two_bytes team ++ (two_bytes (length roster) ++ (roster ++ signature)))

-- two bytes at a place, low first
abbrev pub number_at : ℕ → List ℕ → ℕ
number_at start bytes = get_or bytes start 0 + 256 * get_or bytes (start + 1) 0

unfoldable pub team_of : List ℕ → ℕ
team_of envelope = number_at 2 envelope

unfoldable pub length_of : List ℕ → ℕ
length_of envelope = number_at 4 envelope

unfoldable pub roster_of : List ℕ → List ℕ
roster_of envelope = stretch head_bytes (length_of envelope) envelope

-- the signed message: the two bytes of the team number as they stand, then the roster
abbrev pub team_bytes : List ℕ → List ℕ
team_bytes envelope = get_or envelope 2 0 ∷ get_or envelope 3 0 ∷ []

unfoldable pub message_of : List ℕ → List ℕ
message_of envelope = team_bytes envelope ++ roster_of envelope

unfoldable pub signature_of : Numbers → List ℕ → List ℕ
signature_of s envelope = stretch (head_bytes + length_of envelope) (signature_bytes s) envelope

-- ---- the tests

-- the first four of reading and opening, in opening's own order: fewer than 6 bytes, the mark, L, the total
unfoldable pub head_tests : Numbers → List ℕ → List Test
head_tests s envelope =
    (leb head_bytes (length envelope) or_else 1)
    ∷ (marked s envelope_kind envelope or_else 2)
    ∷ (leb (length_of envelope) roster_limit or_else 3)
    ∷ (eqb (length envelope) (envelope_bytes s (length_of envelope)) or_else 1)
    ∷ []

-- reading: those, then the signature record's mark and z
unfoldable pub read_tests : Numbers → List ℕ → List Test
read_tests s envelope =
    head_tests s envelope
    ++ ((marked s 3 (signature_of s envelope) or_else 2)
    ∷ (z_in_range s (z_of s (signature_of s envelope)) or_else 9)
    ∷ [])

-- opening: those, then checking the message with the public record that is lent
unfoldable pub open_tests : Numbers → List ℕ → List ℕ → List Test
open_tests s public envelope = head_tests s envelope ++ check_tests s public (message_of envelope) (signature_of s envelope)

-- writing: lengths, the signature's mark, the roster limit, the signature's z
unfoldable pub write_tests : Numbers → List ℕ → List ℕ → ℕ → List Test
write_tests s roster signature envelope_length =
    (eqb (length signature) (signature_bytes s) or_else 1)
    ∷ (eqb envelope_length (envelope_bytes s (length roster)) or_else 1)
    ∷ (marked s 3 signature or_else 2)
    ∷ (leb (length roster) roster_limit or_else 3)
    ∷ (z_in_range s (z_of s signature) or_else 9)
    ∷ []

-- ---- what comes back of reading and opening, where `refusal` is the number of their tests

-- the team number, 0 on refusal
abbrev pub team_answered : ℕ → List ℕ → ℕ
team_answered refusal envelope = after refusal (team_of envelope) 0

-- the roster's length, 0 on refusal
abbrev pub length_answered : ℕ → List ℕ → ℕ
length_answered refusal envelope = after refusal (length_of envelope) 0

-- the roster, the stretch of the lent envelope, empty on refusal
abbrev pub roster_answered : ℕ → List ℕ → List ℕ
roster_answered refusal envelope = after refusal (roster_of envelope) []
