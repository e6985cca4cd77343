-- The loop of `records::pieces::copy_in`: the first i bytes are copied, and what follows stays. Assumes nothing.
use Rattle.std.proofs.Common.{◌≡◌, ◌++◌, take, drop}
use Rattle.records.proofs.pieces.copy_in.Given as goal

abbrev pub invariant-loop-i : goal.invariant-loop-i
invariant-loop-i l = l.to ≡ take l.i l.from ++ drop l.i l.initial.to
