-- Set I, qTESLA-p-I, and that its numbers are good. Assumes nothing.
use Rattle.std.specs.Prelude.{refl, ◌≡◌, ℕ, ◌<◌}
use Rattle.std.proofs.Common.{lit<, lit≤}
use Rattle.sets.specs.declared.Numbers.{Numbers}
use Rattle.sets.specs.Good.{Good}
use Rattle.sets.specs.Marks.{fresh}

abbrev pub set_i : Numbers
set_i =
    record {
      n = 1024;
      k = 4;
      q = 343576577;
      h = 25;
      e = 554;
      s = 554;
      b = 524287;
      d = 22;
      t_bits = 29;
      z_bits = 20;
      position_bits = 10;
      digit = 1;
    }

pub set_i_good : Good set_i
set_i_good =
    record {
      n_power = refl;
      position_fits = lit≤ tt;
      k_few = lit≤ tt;
      q_small = lit< tt;
      q_large = lit≤ tt;
      t_fits = lit≤ tt;
      t_once = lit≤ tt;
      t_byte = lit≤ tt;
      t_word = lit≤ tt;
      t_whole = refl;
      y_fits = lit≤ tt;
      y_once = lit≤ tt;
      y_bytes = lit≤ tt;
      b_small = lit≤ tt;
      z_some = lit≤ tt;
      z_fits = lit< tt;
      z_byte = lit≤ tt;
      z_whole = refl;
      h_inside = lit≤ tt;
      h_drawn = lit≤ tt;
      c_small = lit≤ tt;
      e_fits = lit< tt;
      d_some = lit< tt;
      d_fits = lit< tt;
      high_fits = lit≤ tt;
      digit_fits = lit< tt;
    }

-- ---- what the code is handed as set I

pub digit_fits_i : {set : Numbers} → set ≡ set_i → set.digit < 16
digit_fits_i e = rw e (lit< tt)

pub fresh_i : {set : Numbers} (j : ℕ) → set ≡ set_i → fresh set.digit j ≡ fresh 1 j
fresh_i j e = rw e

pub good_i : {set : Numbers} → set ≡ set_i → Good set
good_i e = rw e set_i_good
