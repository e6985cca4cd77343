-- Laws of tests in a row, of the answer that they give and of what an output holds then.
--     answer_pass, answer_fail      a first test that passes, and one that does not
--     answer_before, answer_past    a refusal is the answer, whatever follows it; where tests pass, what follows them decides
--     after_done, after_refused, after_other      an output after the answer 0, and after any other
--     before, beyond                what a function answers that makes the tests of another first
--     tests                         the laws by which `search` proves what a function answers that makes its tests one after another
--     all_pass, passes_all, passes_at   every test passes exactly where the answer is 0, and then the test at each place does
-- Assumes nothing.
use Rattle.std.specs.Prelude.{◌≡◌, refl, Bool, true, false, not, cond, List, [], ◌∷◌, ◌++◌, ℕ, zero, suc, eqb, ltb, get_or}
use Rattle.std.proofs.Common.{sym, ◌∙◌, arith, eqb-true, eq-eqb, ne_eqb, le-leb, ltb-true}
use Rattle.std.proofs.lemmas.Bool.{eqb-false, lt-leb, not-true, not-false}
use Rattle.whole.specs.Every.{every}
use Rattle.whole.specs.EveryLaws.{both_first, both_second}
use Rattle.answers.specs.Tests.{Test, ◌or_else◌, answer, after, numbered, AllPass, Answered}

-- ---- the answer

pub answer_pass : {passes : Bool} (number : ℕ) (ts : List Test) → passes ≡ true → answer ((passes or_else number) ∷ ts) ≡ answer ts
unfolding answer
answer_pass number ts e = rw e

pub answer_fail : {passes : Bool} (number : ℕ) (ts : List Test) → passes ≡ false → answer ((passes or_else number) ∷ ts) ≡ number
unfolding answer
answer_fail number ts e = rw e

pub answer_none : answer [] ≡ 0
unfolding answer
answer_none = refl

-- a refusal among the first tests is the answer, whatever follows them
pub answer_before : (m : ℕ) (xs ys : List Test) → answer xs ≡ suc m → answer (xs ++ ys) ≡ suc m
unfolding answer
answer_before m [] ys e = absurd (omega arith)
answer_before m (x ∷ xs) ys e = go (answer_before m xs ys) x.passes e
  where
    go : (answer xs ≡ suc m → answer (xs ++ ys) ≡ suc m) → (b : Bool) → cond b (answer xs) x.number ≡ suc m → cond b (answer (xs ++ ys)) x.number ≡ suc m
    go rest true h = rest h
    go rest false h = h

-- where the first tests pass, those that follow them decide
pub answer_past : (xs ys : List Test) → numbered xs ≡ true → answer xs ≡ 0 → answer (xs ++ ys) ≡ answer ys
unfolding answer every
answer_past [] ys n e = refl
answer_past (x ∷ xs) ys n e =
    go (answer_past xs ys (both_second (ltb 0 x.number) (numbered xs) n)) x.passes e
  where
    go : (answer xs ≡ 0 → answer (xs ++ ys) ≡ answer ys) → (b : Bool) → cond b (answer xs) x.number ≡ 0 → cond b (answer (xs ++ ys)) x.number ≡ answer ys
    go rest true h = rest h
    go rest false h =
        absurd (omega (arith, ltb-true 0 x.number (both_first (ltb 0 x.number) (numbered xs) n)))

-- ---- an output

module _ {A : Type 0} where
  pub after_done : {number : ℕ} (new old : A) → number ≡ 0 → after number new old ≡ new
  unfolding after
  after_done new old e = rw e

  pub after_refused : {number : ℕ} (m : ℕ) (new old : A) → number ≡ suc m → after number new old ≡ old
  unfolding after
  after_refused m new old e = rw e

  -- any number but 0 is a refusal
  pub after_other : {number : ℕ} (new old : A) → (number ≡ 0 → ⊥) → after number new old ≡ old
  after_other {number} new old h = go number h
    where
      go : (n : ℕ) → (n ≡ 0 → ⊥) → after n new old ≡ old
      go zero k = absurd (k refl)
      go (suc m) k = after_refused m new old refl

-- ---- what a function answers that makes its tests one after another

module _ {ts : List Test} where
  -- the first test fails
  pub refused : {passes : Bool} {number : ℕ} → passes ≡ false → Answered ((passes or_else number) ∷ ts) number
  refused {number = number} e = record { is = sym (answer_fail number ts e) }

  -- it passes, and the others decide
  pub past : {passes : Bool} {first number : ℕ} → passes ≡ true → Answered ts number → Answered ((passes or_else first) ∷ ts) number
  past {first = first} e a = record { is = a.is ∙ sym (answer_pass first ts e) }

pub accepted : Answered [] 0
accepted = record { is = sym answer_none }

-- a test in the code: a number that is, or is not, what a function computes
pub agrees : {a b c : ℕ} → a ≡ b → b ≡ c → eqb a c ≡ true
agrees {a} {c = c} e f = eq-eqb a c (e ∙ f)

pub differs : {a b c : ℕ} → (a ≡ b → ⊥) → b ≡ c → eqb a c ≡ false
differs {a} {c = c} h f = ne_eqb a c (λ e. h (e ∙ sym f))

-- what a function computes is, or is not, true
pub holds : {x passes : Bool} → x ≡ passes → not x ≡ false → passes ≡ true
holds {x} e h = sym e ∙ not-false x h

pub misses : {x passes : Bool} → x ≡ passes → not x ≡ true → passes ≡ false
misses {x} e h = sym e ∙ not-true x h

-- ---- every test passes

pub all_pass : (ts : List Test) → AllPass ts → answer ts ≡ 0
unfolding AllPass answer
all_pass [] p = refl
all_pass (t ∷ ts) p = rw p.0 (all_pass ts p.1)

pub passes_all : (ts : List Test) → numbered ts ≡ true → answer ts ≡ 0 → AllPass ts
unfolding AllPass answer every
passes_all [] n e = tt
passes_all (t ∷ ts) n e = go (passes_all ts (both_second (ltb 0 t.number) (numbered ts) n)) t.passes refl e
  where
    go : (answer ts ≡ 0 → AllPass ts) → (b : Bool) → t.passes ≡ b → cond b (answer ts) t.number ≡ 0 → (t.passes ≡ true) × AllPass ts
    go rest true f h = (f, rest h)
    go rest false f h = absurd (omega (arith, ltb-true 0 t.number (both_first (ltb 0 t.number) (numbered ts) n)))

-- so the test at each place does
pub passes_at : (ts : List Test) → numbered ts ≡ true → answer ts ≡ 0 → (i : ℕ) → (get_or ts i (true or_else 0)).passes ≡ true
unfolding AllPass
passes_at ts n e i = go ts i (passes_all ts n e)
  where
    go : (us : List Test) (j : ℕ) → AllPass us → (get_or us j (true or_else 0)).passes ≡ true
    go [] j p = refl
    go (t ∷ us) zero p = p.0
    go (t ∷ us) (suc j) p = go us j p.1

-- where a function answered 0, every test passes: `done` is whether its number is 0
pub passed : {ts : List Test} {number : ℕ} {done : Bool} → Answered ts number → done ≡ eqb number 0 → done ≡ true → answer ts ≡ 0
passed {number = number} a e h = sym a.is ∙ eqb-true number 0 (sym e ∙ h)

pub all_passed : {ts : List Test} {number : ℕ} {done : Bool} → numbered ts ≡ true → Answered ts number → done ≡ eqb number 0 → done ≡ true → AllPass ts
all_passed {ts} n a e h = passes_all ts n (passed a e h)

-- ---- the tests of one function, then those of another

module _ {xs : List Test} {m : ℕ} {done : Bool} (ys : List Test) (a : Answered xs m) (e : done ≡ eqb m 0) where
  -- a refusal of the first tests is the answer
  pub before : not done ≡ true → Answered (xs ++ ys) m
  before h = record { is = sym (go m a.is (eqb-false m 0 (sym e ∙ not-true done h))) }
    where
      go : (n : ℕ) → n ≡ answer xs → (n ≡ 0 → ⊥) → answer (xs ++ ys) ≡ n
      go zero f k = absurd (k refl)
      go (suc n) f k = answer_before n xs ys (sym f)

  -- where they pass, the others decide
  pub beyond : {n : ℕ} → numbered xs ≡ true → not done ≡ false → Answered ys n → Answered (xs ++ ys) n
  beyond i h b =
      record { is = b.is ∙ sym (answer_past xs ys i (passed a e (not-false done h))) }

pub ruleset tests = (refused, past, accepted, eq-eqb, ne_eqb, le-leb, lt-leb, agrees, differs, holds, misses)
