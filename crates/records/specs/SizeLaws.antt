-- Bounds on the lengths of a good set's records, by which every sum and product of lengths fits a usize; and where the stretch of one
-- t_i ends. Assumes nothing.
use Rattle.std.specs.Prelude.{◌≡◌, List, ℕ, ◌+◌, ◌*◌, ◌≤◌, ◌<◌, length}
use Rattle.std.proofs.Common.{mul-le-mul, mul-le-mul_left, mul_comm, le_of_lt, arith}
use Rattle.whole.specs.Rows.{row_fits}
use Rattle.sets.specs.declared.Numbers.{Numbers}
use Rattle.sets.specs.Good.{Good}
use Rattle.sets.specs.GoodLaws.{n_few, z_narrow}
use Rattle.records.specs.Layout.{t_bytes, z_bytes, public_bytes}

module _ {s : Numbers} (good : Good s) where
  pub t_bits_few : s.t_bits * s.n ≤ 2097152
  t_bits_few = mul-le-mul good.t_word (n_few good)

  pub z_bits_few : s.z_bits * s.n ≤ 2097152
  z_bits_few = mul-le-mul (le_of_lt (z_narrow good)) (n_few good)

  pub z_bytes_few : {len : ℕ} → len ≡ z_bytes s → len ≤ 262144
  z_bytes_few e = omega (arith, z_bits_few)

  pub t_bytes_few : t_bytes s ≤ 262144
  t_bytes_few = omega (arith, t_bits_few)

  pub packed_few : s.k * t_bytes s ≤ 66846720
  packed_few = mul-le-mul good.k_few t_bytes_few

  -- t_(i + 1) starts before all packed t end
  pub start_few : (i : ℕ) → i ≤ s.k → t_bytes s * i ≤ 66846720
  start_few i h = omega (arith, mul-le-mul_left (t_bytes s) h, mul_comm (t_bytes s) s.k, packed_few)

-- the stretch of t_(i + 1) ends inside the record
pub stretch_fits : (s : Numbers) (public : List ℕ) (i : ℕ) → length public ≡ public_bytes s → i < s.k → 2 + t_bytes s * i + t_bytes s ≤ length public
stretch_fits s public i long inside = omega (arith, row_fits (t_bytes s) s.k i inside)
