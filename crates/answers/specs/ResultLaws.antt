-- Laws of what a function answers that asks another for its tests by `?`.
--     passed_ok, beyond_ok       nothing was refused: every test passes, and the tests that follow decide
--     answered_err, kept_err     a refusal goes on to the caller, and an output holds what it held
--     before_err                 a refusal stands before the tests that follow
-- Assumes nothing.
use Rattle.std.specs.Prelude.{◌≡◌, refl, true, List, ◌++◌, ℕ, zero, suc, Result, IsErrAnd}
use Rattle.std.proofs.Common.{sym, ◌∙◌}
use Rattle.std.proofs.lemmas.Result.{err_from_is_err_and}
use Rattle.answers.specs.declared.Refusal.{Refusal}
use Rattle.answers.specs.Answers.{refusal_number, refusal_some, number_of}
use Rattle.answers.specs.Tests.{Test, numbered, AllPass, Answered, Output}
use Rattle.answers.specs.TestLaws.{answer_before, answer_past, passes_all, after_other}

module _ {ts : List Test} where
  module _ (a : Answered ts 0) (n : numbered ts ≡ true) where
    pub passed_ok : AllPass ts
    passed_ok = passes_all ts n (sym a.is)

    pub beyond_ok : {ys : List Test} {number : ℕ} → Answered ys number → Answered (ts ++ ys) number
    beyond_ok {ys} b = record { is = b.is ∙ sym (answer_past ts ys n (sym a.is)) }

  module _ (refusal : Refusal) (a : Answered ts (refusal_number refusal)) where
    pub answered_err : {A : Type 0} (r : Result A Refusal) → IsErrAnd r (λ other. other ≡ refusal) → Answered ts (number_of r)
    answered_err r e = let p = err_from_is_err_and r e in rw (p.1, p.2) a

    pub kept_err : {A : Type 0} {new old : A} → Output ts new old old
    kept_err {new = new} {old} = record { is = sym (after_other new old (λ z. refusal_some refusal (a.is ∙ z))) }

    pub before_err : (ys : List Test) → Answered (ts ++ ys) (refusal_number refusal)
    before_err ys = go (refusal_number refusal) (refusal_some refusal) a
      where
        go : (n : ℕ) → (n ≡ 0 → ⊥) → Answered ts n → Answered (ts ++ ys) n
        go zero h b = absurd (h refl)
        go (suc n) h b = record { is = sym (answer_before n ts ys (sym b.is)) }
