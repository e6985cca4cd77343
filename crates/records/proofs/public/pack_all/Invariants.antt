-- The loop of `records::public::pack_all`. Its invariant: as many packed t_i stand in the record as came. Assumes nothing.
use Rattle.std.proofs.Common.{length}
use Rattle.records.proofs.PublicSteps.{WritingT}
use Rattle.records.proofs.public.pack_all.Given as goal

abbrev pub invariant-loop-i : goal.invariant-loop-i
invariant-loop-i l = WritingT l.set l.t l.initial.public l.public (length l.yielded)
