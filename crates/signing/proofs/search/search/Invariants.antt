-- The loop of `signing::search::search`. Its invariant: every counter before this one fails, so the search goes on from it, and the
-- signature is as it was. Assumes nothing.
use Rattle.attempts.specs.Attempt.{key_of, attempt}
use Rattle.signing.proofs.SearchSteps.{Searching}
use Rattle.signing.proofs.search.search.Given as goal

abbrev pub invariant-loop-counter : goal.invariant-loop-counter
invariant-loop-counter l = Searching (attempt l.set.numbers (key_of l.set.numbers l.secret) l.digest l.rand) l.budget l.initial.signature l.signature l.counter
