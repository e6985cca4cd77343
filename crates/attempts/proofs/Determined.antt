-- The contracts of this crate's public functions determine their results and what each output holds at exit. Assumes nothing.
use mathlib.Core.Path.{sym, ◌∙◌}
use Rattle.whole.specs.Determined.{Result, Output}
use Rattle.attempts.proofs.attempt.Kinds as attempt_kinds
use Rattle.attempts.proofs.attempt.Reads as attempt
use Rattle.attempts.proofs.row.draw_key.Kinds as draw_key_kinds
use Rattle.attempts.proofs.row.draw_key.Reads as draw_key

pub attempt_determined : Result 5 attempt_kinds.ps attempt_kinds.r attempt.Learnt
attempt_determined κs a x y e f p q = p.answer ∙ sym q.answer

pub attempt_signature_determined : Output 5 attempt_kinds.ps attempt_kinds.r attempt.Learnt (λ κs e. e.1.1.1.1.1.1.0.now)
attempt_signature_determined κs a x y e f p q = p.signature ∙ sym q.signature

pub draw_key_determined : Output 2 draw_key_kinds.ps draw_key_kinds.r draw_key.Learnt (λ κs e. e.1.1.0.now)
draw_key_determined κs a x y e f p q = p ∙ sym q
