-- Set I's q and what has been tested are what the product asks. Assumes nothing.
use Rattle.std.proofs.Common.{rules}
use Rattle.sets.specs.SetI.{set_i}
use Rattle.records.specs.PublicLaws.{t_in_range_below}
use Rattle.speed.proofs.speed_multiply.Goals as goal

pub multiply-requires : goal.multiply-requires
multiply-requires c =
    rw c.numbers-set.ensures
    (record {
      small = search rules;
      some = search rules;
      a_long = search rules;
      b_long = search rules;
      a_below = t_in_range_below set_i _ (search rules);
      b_below = t_in_range_below set_i _ (search rules);
    })
