-- The contracts of `check` and `check_digest` determine their answers. They have no output.
-- Assumes nothing.
use Rattle.whole.specs.Determined.{Result}
use Rattle.answers.specs.Answers.{number_one}
use Rattle.answers.specs.OutputLaws.{same_number}
use Rattle.checking.proofs.check.Kinds as check_kinds
use Rattle.checking.proofs.check.Reads as check
use Rattle.checking.proofs.check_digest.Kinds as check_digest_kinds
use Rattle.checking.proofs.check_digest.Reads as check_digest

pub check_determined : Result 3 check_kinds.ps check_kinds.r check.Learnt
check_determined κs a x y e f p q = number_one x y (same_number p q)

pub check_digest_determined : Result 3 check_digest_kinds.ps check_digest_kinds.r check_digest.Learnt
check_digest_determined κs a x y e f p q = number_one x y (same_number p q)
