-- The goals of `signatures::write` that want an answer by hand. Assumes nothing.
use borrow.Author.Rules.{rules}
use Rattle.answers.specs.OutputLaws.{made}
use Rattle.answers.specs.ResultLaws.{answered_err, kept_err}
use Rattle.sets.specs.Known.{known_good}
use Rattle.signatures.proofs.Steps.{write_puts}
use Rattle.signatures.proofs.write.Goals as goal

pub test_write-requires : goal.test_write-requires
test_write-requires c = search (known_good, rules)

pub put-requires : goal.put-requires
put-requires c = search (write_puts, c.in_ok-test_write.ensures, rules)

pub returns : goal.returns
returns c = search (made, c.in_ok-test_write.ensures, rules)

pub returns-in_err-test_write : goal.returns-in_err-test_write
returns-in_err-test_write c = search (answered_err, kept_err, c.in_err-test_write.ensures, c.from_residual.ensures.1, rules)
