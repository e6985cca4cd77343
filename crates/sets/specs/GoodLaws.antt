-- What the conditions on a set's numbers give.
--     q_some                   there are residues
--     n_few                    how many coefficients a polynomial has at most
--     z_narrow, y_small        z and y + s c fit a word
--     row_few, row_word, row_inside, start_word, end_word, offset_word, row_ends
--                                  how many k polynomials in a row have at most, so that every place among them fits a word
-- Assumes nothing.
use Rattle.std.specs.Prelude.{◌≡◌, List, ℕ, ◌+◌, ◌*◌, ◌≤◌, ◌<◌, ◌^◌, length}
use Rattle.std.proofs.Common.{mul-le-mul, arith, pow_mono, Fits}
use Rattle.std.specs.Int.{w64}
use Rattle.whole.specs.Rows.{row_fits, row_within}
use Rattle.sets.specs.declared.Numbers.{Numbers}
use Rattle.sets.specs.Good.{Good}

module _ {set : Numbers} (good : Good set) where
  pub q_some : 0 < set.q
  q_some = omega (arith, good.q_large)

  pub n_few : set.n ≤ 65536
  n_few = rw good.n_power (pow_mono good.position_fits)

  -- 2^z_bits fits a word of 32 bits, and z one with a sign
  pub z_narrow : set.z_bits < 32
  z_narrow = omega (arith, good.y_bytes)

  -- y is at most 2^29 in size, so that y + s c fits a word with a sign
  pub y_small : set.b ≤ 2 ^ 29
  y_small =
      let few : 2 ^ set.z_bits ≤ 2 ^ 24 = pow_mono good.y_bytes in
      omega (arith, good.y_fits)

  pub row_few : set.k * set.n ≤ 16711680
  row_few = mul-le-mul good.k_few n_few

  pub row_word : Fits w64 (set.k * set.n)
  row_word = record { fits = omega (arith, row_few) }

  -- polynomial i ends among them
  pub row_inside : {i : ℕ} → i < set.k → set.n * i + set.n ≤ 16711680
  row_inside {i} l = omega (arith, row_fits set.n set.k i l, row_few)

  -- where polynomial i starts and ends among them fits a word, and so do its offsets in elements of 4 bytes
  pub start_word : {i : ℕ} → i < set.k → Fits w64 (set.n * i)
  start_word l = record { fits = omega (arith, row_inside l) }

  pub end_word : {i : ℕ} → i < set.k → Fits w64 (set.n * i + set.n)
  end_word l = record { fits = omega (arith, row_inside l) }

  pub offset_word : {i : ℕ} → i < set.k → Fits w64 (set.n * i * 4)
  offset_word l = record { fits = omega (arith, row_inside l) }

  -- where it ends in a list of them
  pub row_ends : {A : Type 0} {i : ℕ} (xs : List A) → length xs ≡ set.k * set.n → i < set.k → set.n * i + set.n ≤ length xs
  row_ends {i = i} xs e l = row_within set.n set.k i xs e l
