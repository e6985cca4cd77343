-- Set III, qTESLA-p-III, and that its numbers are good. Assumes nothing.
use Rattle.std.specs.Prelude.{refl}
use Rattle.std.proofs.Common.{lit<, lit≤}
use Rattle.sets.specs.declared.Numbers.{Numbers}
use Rattle.sets.specs.Good.{Good}

abbrev pub set_iii : Numbers
set_iii =
    record {
      n = 2048;
      k = 5;
      q = 856145921;
      h = 40;
      e = 901;
      s = 901;
      b = 2097151;
      d = 24;
      t_bits = 30;
      z_bits = 22;
      position_bits = 11;
      digit = 3;
    }

pub set_iii_good : Good set_iii
set_iii_good =
    record {
      n_power = refl;
      position_fits = lit≤ tt;
      k_few = lit≤ tt;
      q_small = lit< tt;
      q_large = lit≤ tt;
      t_fits = lit≤ tt;
      t_once = lit≤ tt;
      t_byte = lit≤ tt;
      t_word = lit≤ tt;
      t_whole = refl;
      y_fits = lit≤ tt;
      y_once = lit≤ tt;
      y_bytes = lit≤ tt;
      b_small = lit≤ tt;
      z_some = lit≤ tt;
      z_fits = lit< tt;
      z_byte = lit≤ tt;
      z_whole = refl;
      h_inside = lit≤ tt;
      h_drawn = lit≤ tt;
      c_small = lit≤ tt;
      e_fits = lit< tt;
      d_some = lit< tt;
      d_fits = lit< tt;
      high_fits = lit≤ tt;
      digit_fits = lit< tt;
    }
