-- The loop of `records::public::t_passes_in`. Its invariant: t_1..t_i are in range. Assumes nothing.
use Rattle.std.proofs.Common.{◌≡◌, ℕ, ◌<◌, true}
use Rattle.records.specs.Public.{t_of, t_in_range}
use Rattle.records.proofs.public.t_passes_in.Given as goal

abbrev pub invariant-loop-i : goal.invariant-loop-i
invariant-loop-i l = (j : ℕ) → j < l.i → t_in_range l.set (t_of l.set l.public j) ≡ true
