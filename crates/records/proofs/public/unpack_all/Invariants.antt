-- The loop of `records::public::unpack_all`. Its invariant: t_1..t_i stand in t. Assumes nothing.
use Rattle.records.proofs.PublicSteps.{ReadingT}
use Rattle.records.proofs.public.unpack_all.Given as goal

abbrev pub invariant-loop-i : goal.invariant-loop-i
invariant-loop-i l = ReadingT l.set l.public l.initial.t l.t l.i
