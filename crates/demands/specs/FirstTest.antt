-- The first test of a list that fails. Its number is the answer, and the answer is its number (`first_failing`, `failing_first`); where the
-- numbers rise it is the lowest of a test that fails (`lowest`). A number whose tests all pass is not answered (`not_answered`).
-- Assumes nothing.
use Rattle.std.specs.Prelude.{◌≡◌, refl, Bool, true, false, cond, ◌&&◌, List, [], ◌∷◌, ℕ, suc, ◌≤◌, eqb, leb}
use Rattle.std.proofs.Common.{sym, subst, ◌∙◌, true≢false, le_refl, le_trans, arith, eq-eqb, leb-true}
use Rattle.whole.specs.Every.{every}
use Rattle.whole.specs.EveryLaws.{both_first, both_second}
use Rattle.answers.specs.Tests.{Test, answer}

-- every test before it passes, the test itself does not, and `number` is its number
pub data FirstFailing : List Test → ℕ → Type 0 where
  here : {t : Test} {ts : List Test} → t.passes ≡ false → FirstFailing (t ∷ ts) t.number
  later : {t : Test} {ts : List Test} {number : ℕ} → t.passes ≡ true → FirstFailing ts number → FirstFailing (t ∷ ts) number

step_first : (t : Test) (ts : List Test) (number : ℕ) (b : Bool) → t.passes ≡ b → (answer ts ≡ suc number → FirstFailing ts (suc number))
    → cond b (answer ts) t.number ≡ suc number → FirstFailing (t ∷ ts) (suc number)
step_first t ts number true p ih e = later p (ih e)
step_first t ts number false p ih e = subst (FirstFailing (t ∷ ts)) e (here p)

-- the number of a refusal is that of the first test that fails
pub first_failing : (ts : List Test) (number : ℕ) → answer ts ≡ suc number → FirstFailing ts (suc number)
unfolding answer
first_failing [] number e = absurd (omega arith)
first_failing (t ∷ ts) number e = step_first t ts number t.passes refl (first_failing ts number) e

-- and where a test is the first that fails, its number is answered
pub failing_first : (ts : List Test) (number : ℕ) → FirstFailing ts number → answer ts ≡ number
unfolding answer
failing_first [] number f = elim f [ ]
failing_first (t ∷ ts) number (here p) = rw p
failing_first (t ∷ ts) number (later p f) = rw p (failing_first ts number f)

-- a number is not answered where every test that has it passes
pub not_answered : (ts : List Test) (number : ℕ) → every (λ (t : Test). cond (eqb t.number (suc number)) t.passes true) ts ≡ true → answer ts ≡ suc number → ⊥
unfolding every
not_answered ts number h e = go ts (suc number) h (first_failing ts number e)
  where
    go : (us : List Test) (m : ℕ) → every (λ (t : Test). cond (eqb t.number m) t.passes true) us ≡ true → FirstFailing us m → ⊥
    go [] m k f = elim f [ ]
    go (t ∷ us) m k (here p) =
        true≢false (sym (rw (eq-eqb t.number t.number refl) at (both_first (cond (eqb t.number m) t.passes true) _ k)) ∙ p)
    go (t ∷ us) m k (later p f) = go us m (both_second (cond (eqb t.number m) t.passes true) _ k) f

-- ---- the lowest number that applies

-- each number is at most the next
pub data Rising : List Test → Type 0 where
  end : Rising []
  one : {t : Test} → Rising (t ∷ [])
  up : {t u : Test} {ts : List Test} → t.number ≤ u.number → Rising (u ∷ ts) → Rising (t ∷ u ∷ ts)

-- the same as a computation, by which the lists of the entries are seen to rise
abbrev pub rises : List Test → Bool
rises [] = true
rises (t ∷ []) = true
rises (t ∷ u ∷ ts) = leb t.number u.number && rises (u ∷ ts)

pub are_rising : (ts : List Test) → rises ts ≡ true → Rising ts
are_rising [] e = end
are_rising (t ∷ []) e = one
are_rising (t ∷ u ∷ ts) e =
    up (leb-true t.number u.number (both_first (leb t.number u.number) (rises (u ∷ ts)) e))
    (are_rising (u ∷ ts) (both_second (leb t.number u.number) (rises (u ∷ ts)) e))

-- every test that fails has at least this number
pub data AtLeast : ℕ → List Test → Type 0 where
  end : {m : ℕ} → AtLeast m []
  also : {m : ℕ} {t : Test} {ts : List Test} → (t.passes ≡ false → m ≤ t.number) → AtLeast m ts → AtLeast m (t ∷ ts)

above : (m : ℕ) (t : Test) (ts : List Test) → Rising (t ∷ ts) → m ≤ t.number → AtLeast m ts
above m t [] r h = end
above m t (u ∷ ts) (up l r) h = also (λ _. le_trans h l) (above m u ts r (le_trans h l))

rising_tail : {t : Test} {ts : List Test} → Rising (t ∷ ts) → Rising ts
rising_tail one = end
rising_tail (up l r) = r

-- where the numbers rise, the answer is the lowest number of a test that fails
pub lowest : (ts : List Test) (number : ℕ) → Rising ts → FirstFailing ts number → AtLeast number ts
lowest [] number r f = elim f [ ]
lowest (t ∷ ts) number r (here p) = also (λ _. le_refl t.number) (above t.number t ts r (le_refl t.number))
lowest (t ∷ ts) number r (later p f) = also (λ q. absurd (true≢false (sym p ∙ q))) (lowest ts number (rising_tail r) f)
