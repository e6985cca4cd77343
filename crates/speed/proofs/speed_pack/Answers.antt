-- Set I's t fits what packing asks. Assumes nothing.
use Rattle.std.proofs.Common.{rules}
use Rattle.whole.specs.BelowLaws.{below_more}
use Rattle.sets.specs.SetI.{set_i, set_i_good}
use Rattle.records.specs.PublicLaws.{t_in_range_below}
use Rattle.speed.proofs.speed_pack.Goals as goal

pub pack-requires : goal.pack-requires
pack-requires c =
    record {
      wide = search rules;
      narrow = search rules;
      below = below_more _ set_i_good.t_fits (t_in_range_below set_i _ (search rules));
      few = search rules;
      room = search rules;
    }
