-- The number that document 01 gives for each answer, and that no two answers share one.
-- Assumes nothing.
use Rattle.std.specs.Prelude.{◌≡◌, refl, true, cond, ℕ, eqb, ltb, Result, Ok, Err}
use Rattle.std.proofs.Common.{sym, ap, arith, ltb-true}
use Rattle.whole.specs.Determined.{one_to_one}
use Rattle.answers.specs.declared.Refusal.{Refusal}
use Rattle.answers.specs.declared.Refusal.TheVariants.{Length, Mark, Message, Budget, Value, SumS, SumE, None, Z, High, Hash}

abbrev pub refusal_number : Refusal → ℕ
refusal_number Length = 1
refusal_number Mark = 2
refusal_number Message = 3
refusal_number Budget = 4
refusal_number Value = 5
refusal_number SumS = 6
refusal_number SumE = 7
refusal_number None = 8
refusal_number Z = 9
refusal_number High = 10
refusal_number Hash = 11

-- 0 where nothing was refused, whatever comes with it
abbrev pub number_of : {A : Type 0} → Result A Refusal → ℕ
number_of (Ok a) = 0
number_of (Err refusal) = refusal_number refusal

-- the refusal with this number
abbrev refusal_with : ℕ → Refusal
refusal_with n =
    cond (eqb n 1) Length
    (cond (eqb n 2) Mark
    (cond (eqb n 3) Message
    (cond (eqb n 4) Budget
    (cond (eqb n 5) Value
    (cond (eqb n 6) SumS
    (cond (eqb n 7) SumE
    (cond (eqb n 8) None
    (cond (eqb n 9) Z
    (cond (eqb n 10) High Hash)))))))))

back : (r : Refusal) → refusal_with (refusal_number r) ≡ r
back Length = refl
back Mark = refl
back Message = refl
back Budget = refl
back Value = refl
back SumS = refl
back SumE = refl
back None = refl
back Z = refl
back High = refl
back Hash = refl

-- a refusal has its number to itself
pub refusal_one : (a b : Refusal) → refusal_number a ≡ refusal_number b → a ≡ b
refusal_one = one_to_one refusal_with back

-- a refusal is not the number 0
pub refusal_some : (r : Refusal) → refusal_number r ≡ 0 → ⊥
refusal_some r e = absurd (omega (arith, ltb-true 0 (refusal_number r) (go r), e))
  where
    go : (r : Refusal) → ltb 0 (refusal_number r) ≡ true
    go Length = refl
    go Mark = refl
    go Message = refl
    go Budget = refl
    go Value = refl
    go SumS = refl
    go SumE = refl
    go None = refl
    go Z = refl
    go High = refl
    go Hash = refl

-- what an entry answers is told by its number and by what comes with it
pub answer_one : {A : Type 0} (a b : Result A Refusal) → number_of a ≡ number_of b → ((x y : A) → a ≡ Ok x → b ≡ Ok y → x ≡ y) → a ≡ b
answer_one (Ok x) (Ok y) e same = ap Ok (same x y refl refl)
answer_one (Ok x) (Err s) e same = absurd (refusal_some s (sym e))
answer_one (Err r) (Ok y) e same = absurd (refusal_some r e)
answer_one (Err r) (Err s) e same = ap Err (refusal_one r s e)

pub number_one : (a b : Result Unit Refusal) → number_of a ≡ number_of b → a ≡ b
number_one a b e = answer_one a b e (λ x y f g. refl)
