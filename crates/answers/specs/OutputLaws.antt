-- Laws of what an output holds after the answer of tests in a row.
--     made, kept                    after the answer 0 it holds what is new, after any other what it held
--     made_done, kept_refused       the same for a function that asked whether its tests are done
--     same_number, same_output      the tests determine the number, and what the output holds
-- Assumes nothing.
use Rattle.std.specs.Prelude.{◌≡◌, Bool, true, false, List, ℕ, suc, eqb}
use Rattle.std.proofs.Common.{sym, ◌∙◌}
use Rattle.std.proofs.lemmas.Bool.{eqb-false}
use Rattle.answers.specs.Tests.{Test, Answered, Output}
use Rattle.answers.specs.TestLaws.{after_done, after_refused, after_other, passed}

pub same_number : {ts : List Test} {m n : ℕ} → Answered ts m → Answered ts n → m ≡ n
same_number a b = a.is ∙ sym b.is

module _ {A : Type 0} {ts : List Test} {new old : A} where
  pub made : {now : A} → Answered ts 0 → now ≡ new → Output ts new old now
  made a e = record { is = e ∙ sym (after_done new old (sym a.is)) }

  pub kept : {number : ℕ} → Answered ts (suc number) → Output ts new old old
  kept {number} a = record { is = sym (after_refused number new old (sym a.is)) }

  pub same_output : {x y : A} → Output ts new old x → Output ts new old y → x ≡ y
  same_output o p = o.is ∙ sym p.is

-- `done` is whether the number is 0
module _ {A : Type 0} {ts : List Test} {number : ℕ} {done : Bool} where
  pub made_done : {new old now : A} → Answered ts number → done ≡ eqb number 0 → done ≡ true → now ≡ new → Output ts new old now
  made_done {new} {old} a e h f = record { is = f ∙ sym (after_done new old (passed a e h)) }

  pub kept_refused : {new old : A} → Answered ts number → done ≡ eqb number 0 → done ≡ false → Output ts new old old
  kept_refused {new} {old} a e h =
      record { is = sym (after_other new old (λ z. eqb-false number 0 (sym e ∙ h) (a.is ∙ z))) }
