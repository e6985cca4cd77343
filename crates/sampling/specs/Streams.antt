-- The seven streams: each is SHAKE256 over a two-byte mark and its inputs. What is drawn or hashed from each, the message that a roster is, and the
-- high parts that H takes.
-- Bytes make numbers low byte first.
-- Assumes nothing: these are definitions.
use Rattle.std.specs.Prelude.{List, [], ◌∷◌, ◌++◌, map, ℕ, ◌+◌, ◌*◌, ◌/◌, ◌%◌, ℤ, pos, take, drop}
use Rattle.rounding.specs.Parts.{high}
use Rattle.shake.specs.Shake256.{shake256}
use Rattle.whole.specs.Twos.{twos}
use Rattle.whole.specs.Table.{joined}
use Rattle.sets.specs.declared.Numbers.{Numbers}
use Rattle.sets.specs.Marks.{stream_mark}
use Rattle.sets.specs.Limits.{seed_bytes, digest_bytes}
use Rattle.sampling.specs.Candidates.{candidates}
use Rattle.sampling.specs.Values.{values, less_of}
use Rattle.sampling.specs.Positions.{Drawn, places_of}

-- the first n bytes of stream j, 1 to 7, whose marks are 53 11 to 53 17 in set I
abbrev pub stream : Numbers → ℕ → List ℕ → ℕ → List ℕ
stream s j inputs n = shake256 (stream_mark s.digit j ++ inputs) n

-- a number as two bytes, low first
abbrev pub two_bytes : ℕ → List ℕ
two_bytes x = (x % 256) ∷ (x / 256 % 256) ∷ []

-- what is signed of a roster: the two bytes of its team number, then the roster
abbrev pub roster_message : ℕ → List ℕ → List ℕ
roster_message team roster = two_bytes team ++ roster

-- ---- 1: a_1..a_k from seed_a: 4kn candidates of 4 bytes, range q, over all k polynomials

unfoldable pub all_a : Numbers → List ℕ → List ℕ
all_a s seed_a = values s.q (s.k * s.n) (candidates 4 s.t_bits (stream s 1 seed_a (4 * (4 * (s.k * s.n)))))

-- a_(i + 1)
unfoldable pub a_of : Numbers → List ℕ → ℕ → List ℕ
a_of s seed_a i = take s.n (drop (s.n * i) (all_a s seed_a))

-- ---- 2: y from rand and the counter: 2n candidates of 3 bytes, range 2B + 1, each value less B

unfoldable pub y_of : Numbers → List ℕ → ℕ → List ℤ
y_of s rand counter =
    map (less_of s.b) (values (2 * s.b + 1) s.n (candidates 3 s.z_bits (stream s 2 (rand ++ two_bytes counter) (3 * (2 * s.n)))))

-- ---- 3 to 6: digests

-- rand, from seed_y, r and G of the message
unfoldable pub rand_of : Numbers → List ℕ → List ℕ → List ℕ → List ℕ
rand_of s seed_y r digest = stream s 3 (seed_y ++ r ++ digest) seed_bytes

-- G of the message
unfoldable pub message_digest : Numbers → List ℕ → List ℕ
message_digest s message = stream s 4 message digest_bytes

-- g, of the packed t_1..t_k
unfoldable pub key_digest : Numbers → List ℕ → List ℕ
key_digest s packed_t = stream s 5 packed_t digest_bytes

-- the high parts of one polynomial
abbrev pub high_parts : Numbers → List ℕ → List ℤ
high_parts set v = map (λ x. high set.q set.d (pos x)) v

-- what H takes first: the high parts of k polynomials, i then coefficient: the signer's v_1..v_k, the receiver's w_1..w_k
unfoldable pub highs_of : Numbers → (ℕ → List ℕ) → List ℤ
highs_of set v = joined set.k (λ i. high_parts set (v i))

-- H: c' from the high parts, one signed byte each, i then coefficient, G of the message, and g
unfoldable pub challenge : Numbers → List ℤ → List ℕ → List ℕ → List ℕ
challenge s highs digest g = stream s 6 (map (twos 8) highs ++ digest ++ g) seed_bytes

-- ---- 7: Enc: h positions with signs from c', 256 candidates of 3 bytes

unfoldable pub enc_of : Numbers → List ℕ → List Drawn
enc_of s c' = places_of s.n s.position_bits s.h (stream s 7 c' (3 * 256))
