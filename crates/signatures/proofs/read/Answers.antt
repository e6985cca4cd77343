-- The goals of `signatures::read` that want an answer by hand. Assumes nothing.
use borrow.Author.Rules.{rules}
use Rattle.answers.specs.OutputLaws.{made}
use Rattle.answers.specs.ResultLaws.{answered_err, kept_err}
use Rattle.signatures.proofs.Steps.{read_takes}
use Rattle.signatures.proofs.read.Goals as goal

pub take_out-requires : goal.take_out-requires
take_out-requires c = search (read_takes, c.in_ok-test_read.ensures, rules)

pub returns : goal.returns
returns c = search (made, c.in_ok-test_read.ensures, rules)

pub returns-in_err-test_read : goal.returns-in_err-test_read
returns-in_err-test_read c = search (answered_err, kept_err, c.in_err-test_read.ensures, c.from_residual.ensures.1, rules)
