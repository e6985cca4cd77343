-- What it means that a function's contract determines its answer: any two results that meet it for the same arguments
-- coincide, and so do any two final values of each output. `Learnt` is what a caller learns from the contract's `ensures`,
-- as the checker reads it off the source.
-- Assumes nothing.
use Rattle.std.specs.Prelude.{◌≡◌, List, ℕ}
use Rattle.std.proofs.Common.{sym, ap, ◌∙◌}
use contract.Lifetimes.{Lfts}
use borrow.Fn.Kinds.{ParamKind, ResultKind, Out, Dens, res_t, ended_of}
use denote.Triple.Clauses.{AtExit}

-- two results coincide
abbrev pub Result : (n : ℕ) (ps : List (ParamKind n)) (r : ResultKind n) → Out n ps r → Type 0
Result n ps r Learnt =
    (κs : Lfts n) (a : Dens κs ps) (x y : (res_t r κs).Denot) (e f : AtExit (ended_of n ps r) κs)
    → Learnt κs a x e → Learnt κs a y f → x ≡ y

-- two final values of what `output` reads off the parameters at exit coincide
abbrev pub Output : (n : ℕ) (ps : List (ParamKind n)) (r : ResultKind n) → Out n ps r → {X : Type 0} → ((κs : Lfts n) → AtExit (ended_of n ps r) κs → X) → Type 0
Output n ps r Learnt output =
    (κs : Lfts n) (a : Dens κs ps) (x y : (res_t r κs).Denot) (e f : AtExit (ended_of n ps r) κs)
    → Learnt κs a x e → Learnt κs a y f → output κs e ≡ output κs f

-- what is told by its number: where x can be read back from f x, two x with the same f x are equal
pub one_to_one : {A B : Type 0} {f : A → B} (back : B → A) → ((x : A) → back (f x) ≡ x) → (x y : A) → f x ≡ f y → x ≡ y
one_to_one back h x y e = sym (h x) ∙ ap back e ∙ h y

-- two references that come back hold the same: nothing more is promised of them
abbrev pub Held : (n : ℕ) (ps : List (ParamKind n)) (r : ResultKind n) → Out n ps r → {X : Type 0} → ((κs : Lfts n) → (res_t r κs).Denot → X) → Type 0
Held n ps r Learnt held =
    (κs : Lfts n) (a : Dens κs ps) (x y : (res_t r κs).Denot) (e f : AtExit (ended_of n ps r) κs)
    → Learnt κs a x e → Learnt κs a y f → held κs x ≡ held κs y
