-- The goals of `envelope::writing::write` that want an answer by hand. Assumes nothing.
use borrow.Author.Rules.{rules}
use Rattle.answers.specs.OutputLaws.{made}
use Rattle.answers.specs.ResultLaws.{answered_err, kept_err}
use Rattle.sets.specs.Known.{known_good}
use Rattle.envelope.proofs.WriteSteps.{write_puts}
use Rattle.envelope.proofs.writing.write.Goals as goal

pub returns-in_err-test_write : goal.returns-in_err-test_write
returns-in_err-test_write c = search (answered_err, kept_err, c.in_err-test_write.ensures, c.from_residual.ensures.1, rules)

pub put_envelope-requires-clause-good : goal.put_envelope-requires-clause-good
put_envelope-requires-clause-good c = search (known_good, rules)

pub put_envelope-requires-clause-writable : goal.put_envelope-requires-clause-writable
put_envelope-requires-clause-writable c = search (write_puts, c.in_ok-test_write.ensures, rules)

pub returns : goal.returns
returns c = search (made, c.in_ok-test_write.ensures, rules)
