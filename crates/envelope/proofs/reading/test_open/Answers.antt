-- The goals of `envelope::reading::test_open` that want an answer by hand. The tests of the head, then checking over the digest of the two
-- pieces. Assumes nothing.
use borrow.Author.Rules.{rules}
use Rattle.answers.specs.ResultLaws.{beyond_ok, before_err, answered_err}
use Rattle.envelope.specs.Envelope.{open_tests}
use Rattle.envelope.specs.EnvelopeLaws.{head_numbered}
use Rattle.envelope.proofs.HeadSteps.{head_i, head_word}
use Rattle.envelope.proofs.ReadSteps.{checked_opened}
use Rattle.envelope.proofs.reading.test_open.Goals as goal

pub returns-in_err-test_head : goal.returns-in_err-test_head
unfolding open_tests
returns-in_err-test_head c = search (before_err, answered_err, head_i, c.in_err-test_head.ensures, c.from_residual.ensures.1, rules)

pub overflow_add-len : goal.overflow_add-len
overflow_add-len c = search (head_word, c.in_ok-test_head.ensures, rules)

pub returns : goal.returns
unfolding open_tests
returns c =
    beyond_ok (search (head_i, c.in_ok-test_head.ensures, rules)) (head_numbered _ _)
    (search (checked_opened, c.in_ok-test_head.ensures, rules))
