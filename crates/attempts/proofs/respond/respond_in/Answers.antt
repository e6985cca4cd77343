-- The goals of `attempts::respond::respond_in` that want an answer by hand. Assumes nothing.
use Rattle.attempts.proofs.AttemptSteps.{respond_makes, respond_outside, respond_inside, respond_tests}
use borrow.Author.Rules.{rules}
use Rattle.attempts.proofs.respond.respond_in.Goals as goal

pub make_z-requires : goal.make_z-requires
make_z-requires c = search (respond_makes, rules)

pub returns-then-not-z_in_range : goal.returns-then-not-z_in_range
returns-then-not-z_in_range c = search (respond_outside, rules)

pub w_tests-requires : goal.w_tests-requires
w_tests-requires c = respond_tests c.requires _ c.draw_enc.ensures

pub returns : goal.returns
returns c = search (respond_inside, rules)
