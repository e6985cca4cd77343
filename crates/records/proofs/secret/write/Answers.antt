-- The goals of `records::secret::write` that want an answer by hand. Assumes nothing.
use borrow.Author.Rules.{rules}
use Rattle.answers.specs.OutputLaws.{made}
use Rattle.answers.specs.ResultLaws.{answered_err, kept_err}
use Rattle.records.proofs.SecretSteps.{write_puts}
use Rattle.records.proofs.secret.write.Goals as goal

pub put-requires : goal.put-requires
put-requires c = search (write_puts, c.in_ok-test_write.ensures, rules)

pub returns : goal.returns
returns c = search (made, c.in_ok-test_write.ensures, rules)

pub returns-in_err-test_write : goal.returns-in_err-test_write
returns-in_err-test_write c = search (answered_err, kept_err, c.in_err-test_write.ensures, c.from_residual.ensures.1, rules)
