-- The goal of `sampling::candidate` that wants an answer by hand. Assumes nothing.
use Rattle.std.proofs.Common.{rules, ◌≡◌, ◌*◌, ◌%◌, ◌^◌, fold, reverse, bit_or, arith}
use Rattle.whole.specs.BelowLaws.{below_bytes}
use Rattle.sampling.proofs.CandidateSteps.{low_first}
use Rattle.sampling.proofs.candidate.Goals as goal

pub returns : goal.returns
returns c =
    let folded : c.fold-v.result ≡ fold (λ v b. bit_or (v * 256 % 2 ^ 32) b) 0 (reverse c.args.bytes.now) = search rules in
    rw (c.low.ensures, c.from.ensures, folded, low_first c.args.bytes.now (below_bytes _ (λ i. (c.type_inv.bytes i).fits)) (omega arith))
