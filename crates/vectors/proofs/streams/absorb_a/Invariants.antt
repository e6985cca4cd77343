-- The loop of `vectors::streams::absorb_a`: before each turn, as many of a_1..a_k are drawn as there were turns. Assumes nothing.
use Rattle.sampling.specs.DrawALaws.{AtA}
use Rattle.vectors.proofs.streams.absorb_a.Given as goal

abbrev pub invariant-loop : goal.invariant-loop
invariant-loop l = AtA l.set l.seed_a l.counter l.stream
