-- The goals of `sampling::keep_values` that want an answer by hand. Assumes nothing.
use native.Mathlib.Omega.{arith}
use Rattle.std.proofs.Math.Nat.{mod-lt}
use Rattle.std.proofs.lemmas.Nat.{pow_pos}
use Rattle.packing.specs.Digits.{value}
use Rattle.sampling.proofs.CandidateSteps.{candidate_is}
use Rattle.sampling.proofs.ValueSteps.{one_in, one_last, one_skip, taking_none, taking_one, taking_passed, taking_all, taking_full}
use Rattle.sampling.proofs.keep_values.Goals as goal
use Rattle.sampling.proofs.keep_values.Goals.{else-loop-bytes-test, then-loop-bytes-test+then-taken-need}
use Rattle.sampling.proofs.keep_values.Goals.{then-c-range, else-c-range+then-left-need, else-c-range+else-left-need}

pub loop-bytes-init : goal.loop-bytes-init
loop-bytes-init g c = rw c.as_chunks.ensures.front_len (taking_none (omega arith) c.requires.asks.room)

pub loop-bytes-preserved : goal.loop-bytes-preserved
loop-bytes-preserved g c =
    let read =
    candidate_is g.row.SIZE c.args.stretch.now _ c.bytes-item.is c.as_chunks.ensures.front (omega arith) c.as_chunks.ensures.front_len c.args.bits c.candidate-c.ensures in
    let below = mod-lt (value 8 c.bytes-item.result) (pow_pos c.args.bits) in
    elim c.if-c-range.branch [
      | then-c-range w ↦
          rw (w.out-is, w.next-is)
          (taking_one c.loop-bytes.invariant (omega arith) _ _ _ read (one_in _ _ _ _ (omega arith) w.if-c-range.true) (λ h is. is _ _ w.if-c-range.true w.keep.ensures) (omega arith))
      | else-c-range+then-left-need w ↦
          rw (w.out-is, w.next-is)
          (taking_one c.loop-bytes.invariant (omega arith) _ _ _ read (one_last _ _ _ _ (omega arith) w.if-c-range.false w.if-left-need.true)
          (λ h is. is _ _ (omega (arith, below, c.candidate-c.ensures)) w.keep-then-left-need.ensures) (omega arith))
      | else-c-range+else-left-need w ↦
          rw (w.out-is, w.next-is) (taking_passed c.loop-bytes.invariant (omega arith) _ read (one_skip _ _ _ _ (omega arith) w.if-c-range.false w.if-left-need.false))
    ]

pub returns : goal.returns
returns g c =
    λ h is. elim c.loop-bytes-test.branch [
      | else-loop-bytes-test w ↦ taking_all c.loop-bytes.invariant h is (omega arith)
      | then-loop-bytes-test+then-taken-need w ↦ taking_full c.loop-bytes.invariant h is (omega arith)
    ]
