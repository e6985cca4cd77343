-- The contracts of `sign` and `sign_roster` determine the answer, the counter, and what the signature record holds. Assumes nothing.
use mathlib.Core.Path.{◌≡◌, sym, ap, ◌∙◌}
use mathlib.Core.List.{List}
use Prim.Native.Nat.{ℕ}
use Rattle.std.specs.Prelude as std
use Rattle.whole.specs.Determined.{Result, Output}
use Rattle.answers.specs.declared.Refusal.{Refusal}
use Rattle.answers.specs.Answers.{number_of, answer_one}
use Rattle.sets.specs.declared.Numbers.{Numbers}
use Rattle.signing.specs.Search.{Found}
use Rattle.signing.specs.Promises.{Gives, counter_of}
use Rattle.signing.proofs.sign.Kinds as sign_kinds
use Rattle.signing.proofs.sign.Reads as sign
use Rattle.signing.proofs.sign_roster.Kinds as sign_roster_kinds
use Rattle.signing.proofs.sign_roster.Reads as sign_roster

module _ {set : Numbers} {refusal : ℕ} {f : Found} {old new other : List ℕ} where
  signed_one : (x y : std.Result ℕ Refusal) → Gives set refusal f old new (number_of x) (counter_of x) → Gives set refusal f old other (number_of y) (counter_of y) → x ≡ y
  signed_one x y p q =
      answer_one x y (p.number_is ∙ sym q.number_is) (λ n m e g. ap counter_of (sym e) ∙ p.counter_is ∙ sym q.counter_is ∙ ap counter_of g)

pub sign_determined : Result 4 sign_kinds.ps sign_kinds.r sign.Learnt
sign_determined κs a x y e f p q = signed_one x y p q

pub sign_signature_determined : Output 4 sign_kinds.ps sign_kinds.r sign.Learnt (λ κs e. e.1.1.1.1.0.now)
sign_signature_determined κs a x y e f p q = p.signature_is ∙ sym q.signature_is

pub sign_roster_determined : Result 4 sign_roster_kinds.ps sign_roster_kinds.r sign_roster.Learnt
sign_roster_determined κs a x y e f p q = signed_one x y p q

pub sign_roster_signature_determined : Output 4 sign_roster_kinds.ps sign_roster_kinds.r sign_roster.Learnt (λ κs e. e.1.1.1.1.1.0.now)
sign_roster_signature_determined κs a x y e f p q = p.signature_is ∙ sym q.signature_is
