-- `sampling::drawn::draw_enc` meets its contract: stream 7 of c'. Assumes nothing.
use borrow.Author.Rules.{rules}
use Rattle.whole.specs.BelowLaws.{below_bytes}
use Rattle.sampling.proofs.StreamSteps.{enc_drawn}
use Rattle.sampling.proofs.drawn.draw_enc.Goals as goal

pub returns : goal.returns
returns c = search (enc_drawn, below_bytes _ (λ i. (c.type_inv.c i).fits), rules)
