-- The contracts of what other crates call determine the answer, and what both records hold. Assumes nothing.
use Rattle.whole.specs.Determined.{Result, Output}
use Rattle.answers.specs.Answers.{number_one}
use Rattle.answers.specs.OutputLaws.{same_number, same_output}
use Rattle.keys.proofs.make_key.Kinds as make_key_kinds
use Rattle.keys.proofs.make_key.Reads as make_key
use Rattle.keys.proofs.tests.test_secrets.Kinds as test_secrets_kinds
use Rattle.keys.proofs.tests.test_secrets.Reads as test_secrets

pub make_key_result : Result 6 make_key_kinds.ps make_key_kinds.r make_key.Learnt
make_key_result κs a x y e f p q = number_one x y (same_number p.answered q.answered)

pub make_key_public : Output 6 make_key_kinds.ps make_key_kinds.r make_key.Learnt (λ κs e. e.1.1.1.1.0.now)
make_key_public κs a x y e f p q = same_output p.public q.public

pub make_key_secret : Output 6 make_key_kinds.ps make_key_kinds.r make_key.Learnt (λ κs e. e.1.1.1.1.1.0.now)
make_key_secret κs a x y e f p q = same_output p.secret q.secret

pub test_secrets_result : Result 2 test_secrets_kinds.ps test_secrets_kinds.r test_secrets.Learnt
test_secrets_result κs a x y e f p q = number_one x y (same_number p q)
