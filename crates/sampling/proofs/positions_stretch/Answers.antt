-- The goals of `sampling::positions_stretch` that want an answer by hand. Assumes nothing.
use Rattle.std.proofs.Common.{[], refl, ◌∙◌, w8}
use native.Mathlib.Omega.{arith}
use mir.Facts.{to_z-of_z}
use borrow.Author.Rules.{sfits_of}
use Rattle.whole.specs.BelowLaws.{below_bytes}
use Rattle.sampling.proofs.CandidateSteps.{chunk_bytes, candidate_is}
use Rattle.sampling.proofs.PositionSteps.{sign_is, drawing_none, drawing_one, drawing_passed, drawing_all, drawing_full}
use Rattle.sampling.proofs.positions_stretch.Goals as goal
use Rattle.sampling.proofs.positions_stretch.Goals.{in-Some, in_default}

pub loop-bytes-init : goal.loop-bytes-init
loop-bytes-init c = rw c.as_chunks.ensures.front_len (drawing_none c.requires.within)

pub loop-bytes-preserved : goal.loop-bytes-preserved
loop-bytes-preserved c =
    let p = candidate_is 3 c.args.stretch.now [] refl c.as_chunks.ensures.front (omega arith) c.as_chunks.ensures.front_len c.args.bits c.candidate-p.ensures in
    let s = sign_is _ c.loop-bytes.bytes-index c.args.stretch.now
    (chunk_bytes 3 c.args.stretch.now [] refl c.as_chunks.ensures.front (omega arith) c.as_chunks.ensures.front_len)
    (omega arith)
    (below_bytes _ (λ i. (c.type_inv.stretch i).fits))
    (to_z-of_z {w = w8} (sfits_of c.sign_of-sign.type_inv) ∙ c.sign_of-sign.ensures) in
    elim c.match-placed.branch [
      | in-Some w ↦
          rw (w.positions-is, w.signs-is, w.next-is)
          (drawing_one c.loop-bytes.invariant (omega arith) _ _ p s w.in-Some.q (w.in-Some.ensures _))
      | in_default w ↦
          rw (w.positions-is, w.signs-is, w.next-is)
          (drawing_passed c.loop-bytes.invariant (omega arith) _ _ p s (w.in_default.ensures _))
    ]

pub returns-after-loop-bytes : goal.returns-after-loop-bytes
returns-after-loop-bytes c = drawing_all c.loop-bytes.invariant (omega arith)

pub returns-then-next-positions : goal.returns-then-next-positions
returns-then-next-positions c = drawing_full c.loop-bytes.invariant (omega arith)
