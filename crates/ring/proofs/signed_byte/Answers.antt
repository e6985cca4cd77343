-- The goals of `ring::signed_byte` that want an answer by hand. Assumes nothing.
use Rattle.std.proofs.Common.{arith}
use Rattle.std.proofs.lemmas.Int.{ints}
use Rattle.whole.specs.TwosLaws.{signed_size}
use Rattle.ring.proofs.Numbers.{byte_read}
use Rattle.ring.proofs.signed_byte.Goals as goal

pub returns-clause-value : goal.returns-clause-value
returns-clause-value c = grind (arith, ints, byte_read)

pub returns-clause-small : goal.returns-clause-small
returns-clause-small c = grind (arith, ints, byte_read, signed_size)
