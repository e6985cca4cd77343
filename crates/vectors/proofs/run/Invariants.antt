-- The loop of `vectors::run` ends: each case leaves less of the input. Assumes nothing.
use Rattle.std.proofs.Common.{length}
use Rattle.vectors.proofs.run.Given as goal

abbrev pub decreases-loop-letter : goal.decreases-loop-letter
decreases-loop-letter l = length l.rest
