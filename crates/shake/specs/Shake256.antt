-- SHAKE256 of a whole message, as FIPS 202 writes it: the message with its suffix and padding is cut into blocks of 136 bytes,
-- each block is added (xor) to the state and the permutation applied; then blocks of output are read off, with the permutation
-- between them.
-- Assumes nothing: these are definitions.
use Rattle.std.specs.Prelude.{cond, List, [], ◌∷◌, ◌++◌, ℕ, zero, suc, ◌+◌, ◌-◌, ◌*◌, ◌/◌, ◌%◌, ◌^◌, eqb, length, get_or, take, drop, replicate}
use Rattle.std.specs.Int.Bits.{bit_xor}
use Rattle.whole.specs.Table.{table}
use Rattle.keccak.specs.Steps.{keccak_f}
use Rattle.shake.specs.Sponge.{rate, byte_at}

-- the message with 1F and zeros up to the last byte of its last block, which gets 80 added: one byte 9F where they coincide
unfoldable pub padded : List ℕ → List ℕ
padded message =
    cond (eqb (length message % rate) 135) (message ++ (0x9F ∷ []))
    (message ++ (0x1F ∷ (replicate (134 - length message % rate) 0 ++ (0x80 ∷ []))))

-- lane i of a block: its bytes 8i to 8i + 7, lowest first; 0 past the block's 136 bytes
unfoldable pub lane_of : List ℕ → ℕ → ℕ
lane_of block i =
    get_or block (8 * i) 0 + 2 ^ 8 * get_or block (8 * i + 1) 0 + 2 ^ 16 * get_or block (8 * i + 2) 0 + 2 ^ 24 * get_or block (8 * i + 3) 0
    + 2 ^ 32 * get_or block (8 * i + 4) 0 + 2 ^ 40 * get_or block (8 * i + 5) 0 + 2 ^ 48 * get_or block (8 * i + 6) 0 + 2 ^ 56 * get_or block (8 * i + 7) 0

-- S ⊕ (P ‖ 0ᶜ)
unfoldable pub add_block : List ℕ → List ℕ → List ℕ
add_block lanes block = table 25 (λ i. bit_xor (get_or lanes i 0) (lane_of block i))

-- n blocks absorbed, the first of them first
unfoldable pub absorb_blocks : ℕ → List ℕ → List ℕ → List ℕ
absorb_blocks zero lanes bytes = lanes
absorb_blocks (suc n) lanes bytes = absorb_blocks n (keccak_f (add_block lanes (take rate bytes))) (drop rate bytes)

-- the permutation applied n times
unfoldable pub permuted : ℕ → List ℕ → List ℕ
permuted zero lanes = lanes
permuted (suc n) lanes = permuted n (keccak_f lanes)

-- byte j of the output: byte j % 136 of the state, after a permutation for each block before it
unfoldable pub output_byte : List ℕ → ℕ → ℕ
output_byte lanes j = byte_at (permuted (j / rate) lanes) (j % rate)

-- the first n bytes of SHAKE256 of the message
unfoldable pub shake256 : List ℕ → ℕ → List ℕ
shake256 message n = table n (output_byte (absorb_blocks (length (padded message) / rate) (replicate 25 0) (padded message)))
