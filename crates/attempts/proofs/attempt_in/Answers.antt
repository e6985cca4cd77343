-- The goals of `attempts::attempt_in` that want an answer by hand. Assumes nothing.
use Rattle.attempts.proofs.AttemptSteps.{attempt_commits, attempt_overflows, attempt_concludes, attempt_concluded}
use borrow.Author.Rules.{rules}
use Rattle.attempts.proofs.attempt_in.Goals as goal

pub commit-highs-requires : goal.commit-highs-requires
commit-highs-requires c = search (attempt_commits, rules)

pub returns-then-not-fit : goal.returns-then-not-fit
returns-then-not-fit c = search (attempt_overflows, rules)

pub conclude-requires : goal.conclude-requires
conclude-requires c = attempt_concludes c.requires.attempts c.requires.places c.commit-highs.ensures (search rules)

pub returns : goal.returns
returns c = attempt_concluded c.requires.attempts c.requires.places c.commit-highs.ensures c.if-not-fit.false c.conclude.ensures
