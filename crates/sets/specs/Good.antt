-- What a set's numbers have to satisfy: all that the code and the theorems ask of them. Each comment says what it is for.
-- A set is added by proving them of its numbers, by a case of `Known` with its `Set`, and by an arm where scratch is made.
-- Assumes nothing: these are definitions.
use Rattle.std.specs.Prelude.{◌≡◌, ℕ, ◌+◌, ◌*◌, ◌-◌, ◌/◌, ◌%◌, ◌^◌, ◌≤◌, ◌<◌}
use Rattle.sets.specs.declared.Numbers.{Numbers}

-- the bound that q and d give on the size of a high part
abbrev pub high_most : Numbers → ℕ
high_most s = (s.q / 2 + 2 ^ s.d / 2) / 2 ^ s.d

pub record Good (s : Numbers) : Type 0 where
  -- sampling: the low bits of a candidate are a position, each position below n, and a position fits two bytes
  pub n_power : s.n ≡ 2 ^ s.position_bits
  pub position_fits : s.position_bits ≤ 16
  -- records: the t_i are few enough for lengths in bytes
  pub k_few : s.k ≤ 255
  -- ring, rounding: sums of two residues fit 32 bits, products 62
  pub q_small : s.q < 2 ^ 31
  -- ring: a signed byte is at most q in size
  pub q_large : 128 ≤ s.q
  -- sampling, packing: every residue fits its width, and a candidate less q is a residue
  pub t_fits : s.q ≤ 2 ^ s.t_bits
  pub t_once : 2 ^ s.t_bits ≤ 2 * s.q
  -- packing: one value at least a byte and at most a word; a polynomial fills whole bytes
  pub t_byte : 8 ≤ s.t_bits
  pub t_word : s.t_bits ≤ 32
  pub t_whole : s.t_bits * s.n % 8 ≡ 0
  -- sampling: y + b fits its width, and a candidate less 2b + 1 is at most 2b
  pub y_fits : 2 * s.b + 1 ≤ 2 ^ s.z_bits
  pub y_once : 2 ^ s.z_bits ≤ 2 * (2 * s.b + 1)
  -- sampling: a candidate of 3 bytes holds y
  pub y_bytes : s.z_bits ≤ 24
  -- ring: y and z are at most q in size
  pub b_small : s.b ≤ s.q
  -- packing: z from −(b − s) to b − s is in the range of its width, which is a byte at least; a polynomial fills whole bytes
  pub z_some : s.s ≤ s.b
  pub z_fits : s.b - s.s < 2 ^ (s.z_bits - 1)
  pub z_byte : 8 ≤ s.z_bits
  pub z_whole : s.z_bits * s.n % 8 ≡ 0
  -- sampling: h positions can be drawn, from 256 candidates
  pub h_inside : s.h ≤ s.n
  pub h_drawn : s.h ≤ 256
  -- ring: h signed bytes, each by +1 or −1, sum to a number from −q to q
  pub c_small : 128 * s.h ≤ s.q
  -- rounding: the bounds fit beside a residue, and a step of 2^d has a half
  pub e_fits : s.e < 2 ^ 31
  pub d_some : 0 < s.d
  pub d_fits : s.d < 31
  -- signing, checking: a high part fits a signed byte, so that none answers 10
  pub high_fits : high_most s ≤ 127
  -- marks: the digit is one of a hexadecimal number's
  pub digit_fits : s.digit < 16
