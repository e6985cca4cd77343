-- The contracts of this crate's public functions determine their results and what each output holds at exit; of a part of the lent
-- envelope, the bytes.
-- Assumes nothing.
use mathlib.Core.Path.{◌≡◌, sym, ap, ◌∙◌}
use mathlib.Core.List.{List}
use Prim.Native.Nat.{ℕ}
use Rattle.std.specs.Prelude as std
use Rattle.std.specs.Prelude.{Ok}
use Rattle.whole.specs.Determined.{Result, Output, Held}
use Rattle.answers.specs.declared.Refusal.{Refusal}
use Rattle.answers.specs.Answers.{number_of, number_one, answer_one}
use Rattle.answers.specs.Tests.{Test}
use Rattle.answers.specs.OutputLaws.{same_number, same_output}
use Rattle.envelope.specs.declared.Opened.{Opened}
use Rattle.envelope.specs.Promises.{Opens, opened_team, opened_len}
use Rattle.envelope.proofs.write.Kinds as write_kinds
use Rattle.envelope.proofs.write.Reads as write
use Rattle.envelope.proofs.read.Kinds as read_kinds
use Rattle.envelope.proofs.read.Reads as read
use Rattle.envelope.proofs.open.Kinds as open_kinds
use Rattle.envelope.proofs.open.Reads as opens
use Rattle.envelope.proofs.open_roster.Kinds as open_roster_kinds
use Rattle.envelope.proofs.open_roster.Reads as open_roster
use Rattle.envelope.proofs.open_input.Kinds as open_input_kinds
use Rattle.envelope.proofs.open_input.Reads as open_input
use Rattle.envelope.proofs.roster.Kinds as roster_kinds
use Rattle.envelope.proofs.roster.Reads as roster
use Rattle.envelope.proofs.signature.Kinds as signature_kinds
use Rattle.envelope.proofs.signature.Reads as signature

-- ---- writing

pub write_determined : Result 3 write_kinds.ps write_kinds.r write.Learnt
write_determined κs a x y e f p q = number_one x y (same_number p.answered q.answered)

pub write_envelope : Output 3 write_kinds.ps write_kinds.r write.Learnt (λ κs e. e.1.1.1.0.now)
write_envelope κs a x y e f p q = same_output p.envelope q.envelope

-- ---- reading and opening

opens_one : {ts : List Test} {envelope : List ℕ} (x y : std.Result Opened Refusal) → Opens ts envelope (number_of x) (opened_team x) (opened_len x)
    → Opens ts envelope (number_of y) (opened_team y) (opened_len y) → x ≡ y
opens_one x y p q = answer_one x y (same_number p.answered q.answered) (λ n m e g. one n m (teams e g) (lens e g))
  where
    one : (n m : Opened) → n.team ≡ m.team → n.len ≡ m.len → n ≡ m
    one n m t l = rw (t, l)

    teams : {n m : Opened} → x ≡ Ok n → y ≡ Ok m → n.team ≡ m.team
    teams e g = ap opened_team (sym e) ∙ same_output p.team_is q.team_is ∙ ap opened_team g

    lens : {n m : Opened} → x ≡ Ok n → y ≡ Ok m → n.len ≡ m.len
    lens e g = ap opened_len (sym e) ∙ same_output p.len_is q.len_is ∙ ap opened_len g

pub read_determined : Result 1 read_kinds.ps read_kinds.r read.Learnt
read_determined κs a x y e f p q = opens_one x y p q

pub open_input_determined : Result 1 open_input_kinds.ps open_input_kinds.r open_input.Learnt
open_input_determined κs a x y e f p q = opens_one x y p q

pub open_determined : Result 2 open_kinds.ps open_kinds.r opens.Learnt
open_determined κs a x y e f p q = opens_one x y p q

-- ---- the parts

pub roster_determined : Held 1 roster_kinds.ps roster_kinds.r roster.Learnt (λ κs x. x.now)
roster_determined κs a x y e f p q = p ∙ sym q

pub signature_determined : Held 1 signature_kinds.ps signature_kinds.r signature.Learnt (λ κs x. x.now)
signature_determined κs a x y e f p q = p ∙ sym q

pub open_roster_determined : Held 2 open_roster_kinds.ps open_roster_kinds.r open_roster.Learnt (λ κs x. x.now)
open_roster_determined κs a x y e f p q = p ∙ sym q
