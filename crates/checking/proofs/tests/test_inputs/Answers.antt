-- The goals of `checking::tests::test_inputs` that want an answer by hand. The tests in document 01's order. Assumes nothing.
use borrow.Author.Rules.{rules}
use Rattle.answers.specs.TestLaws.{tests}
use Rattle.checking.specs.Check.{input_tests}
use Rattle.checking.proofs.tests.test_inputs.Goals as goal

pub returns-then-public-public_bytes : goal.returns-then-public-public_bytes
unfolding input_tests
returns-then-public-public_bytes c = search (tests, rules)

pub returns-then-signature-signature_bytes : goal.returns-then-signature-signature_bytes
unfolding input_tests
returns-then-signature-signature_bytes c = search (tests, rules)

pub returns-then-not-is_marked : goal.returns-then-not-is_marked
unfolding input_tests
returns-then-not-is_marked c = search (tests, rules)

pub returns-then-not-is_marked-2 : goal.returns-then-not-is_marked-2
unfolding input_tests
returns-then-not-is_marked-2 c = search (tests, rules) depth 12

pub returns-then-message-gt-MESSAGE_LIMIT : goal.returns-then-message-gt-MESSAGE_LIMIT
unfolding input_tests
returns-then-message-gt-MESSAGE_LIMIT c = search (tests, rules) depth 12

pub returns-then-not-t_passes : goal.returns-then-not-t_passes
unfolding input_tests
returns-then-not-t_passes c = search (tests, rules) depth 12

pub returns-then-not-z_passes : goal.returns-then-not-z_passes
unfolding input_tests
returns-then-not-z_passes c = search (tests, rules) depth 12

pub returns : goal.returns
unfolding input_tests
returns c = search (tests, rules) depth 12
