-- The goal of `shake::byte_at` that wants an answer by hand. Assumes nothing.
use Rattle.std.proofs.lemmas.Nat.{and_mask}
use Rattle.shake.specs.Sponge.{byte_at}
use Rattle.shake.proofs.byte_at.Goals as goal

pub returns : goal.returns
unfolding byte_at
returns c = and_mask _ 8
