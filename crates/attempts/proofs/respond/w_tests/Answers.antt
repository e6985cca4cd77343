-- The goals of `attempts::respond::w_tests` that want an answer by hand. Assumes nothing.
use Rattle.std.proofs.Common.{rules}
use Rattle.records.specs.ChunksLaws.{comes_paired, ends_paired}
use Rattle.attempts.proofs.TestSteps.{pair_asks, pair_fails, pair_passes, pairs_all}
use Rattle.attempts.proofs.respond.w_tests.Goals as goal

pub w_test-requires : goal.w_test-requires
w_test-requires c =
    pair_asks c.requires
    (comes_paired c.requires.good _ _ c.requires.e_long c.requires.v_long c.into_iter-e_i-iterator.result (cc) (cc) (cc) (cc) _ _ c.loop-e_i.yielded_by c.next.new.self (c.in-Some.e_i, c.in-Some.v_i) c.in-Some.is c.next.ensures.steps)
    (cc)

pub returns-then-not-w_test : goal.returns-then-not-w_test
returns-then-not-w_test c =
    pair_fails c.requires
    (comes_paired c.requires.good _ _ c.requires.e_long c.requires.v_long c.into_iter-e_i-iterator.result (cc) (cc) (cc) (cc) _ _ c.loop-e_i.yielded_by c.next.new.self (c.in-Some.e_i, c.in-Some.v_i) c.in-Some.is c.next.ensures.steps)
    c.w_test.ensures c.if-not-w_test.true

pub loop-e_i-preserved : goal.loop-e_i-preserved
loop-e_i-preserved c =
    record {
      can_next = search rules;
      is_finite = tt;
      passed =
          pair_passes c.requires
          (comes_paired c.requires.good _ _ c.requires.e_long c.requires.v_long c.into_iter-e_i-iterator.result (cc) (cc) (cc) (cc) _ _ c.loop-e_i.yielded_by c.next.new.self (c.in-Some.e_i, c.in-Some.v_i) c.in-Some.is c.next.ensures.steps)
          c.w_test.ensures c.if-not-w_test.false c.loop-e_i.invariant.passed;
    }

pub returns : goal.returns
returns c =
    pairs_all _
    (ends_paired c.requires.good _ _ c.requires.e_long c.requires.v_long c.into_iter-e_i-iterator.result (cc) (cc) (cc) (cc) _ _ c.loop-e_i.yielded_by c.next.new.self c.in-None.is c.next.ensures.steps)
    c.loop-e_i.invariant.passed
