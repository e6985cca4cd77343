-- The contracts of what other crates call determine results and outputs, refusals included. Those of `start_a` and `next_a` determine the
-- values that the stream that they answer still gives, and how many are needed, and not the struct: its state, and how many candidates are
-- to come, may differ where the values are the same.
-- Assumes nothing.
use mathlib.Core.Path.{◌≡◌, sym, ◌∙◌}
use denote.Triple.Clauses.{AtExit}
use contract.Lifetimes.{Lfts}
use borrow.Fn.Kinds.{Dens, res_t, ended_of}
use Rattle.whole.specs.Determined.{Result, Output}
use Rattle.answers.specs.Answers.{number_one}
use Rattle.answers.specs.OutputLaws.{same_number, same_output}
use Rattle.sampling.specs.DrawA.{values_left}
use Rattle.sampling.proofs.take_a.Kinds as take_a_kinds
use Rattle.sampling.proofs.take_a.Reads as take_a
use Rattle.sampling.proofs.take_y.Kinds as take_y_kinds
use Rattle.sampling.proofs.take_y.Reads as take_y
use Rattle.sampling.proofs.take_positions.Kinds as take_positions_kinds
use Rattle.sampling.proofs.take_positions.Reads as take_positions
use Rattle.sampling.proofs.two_bytes.Kinds as two_bytes_kinds
use Rattle.sampling.proofs.two_bytes.Reads as two_bytes
use Rattle.sampling.proofs.digests.close_message.Kinds as close_message_kinds
use Rattle.sampling.proofs.digests.close_message.Reads as close_message
use Rattle.sampling.proofs.digests.message_digest.Kinds as message_digest_kinds
use Rattle.sampling.proofs.digests.message_digest.Reads as message_digest
use Rattle.sampling.proofs.digests.joined_digest.Kinds as joined_digest_kinds
use Rattle.sampling.proofs.digests.joined_digest.Reads as joined_digest
use Rattle.sampling.proofs.digests.key_digest.Kinds as key_digest_kinds
use Rattle.sampling.proofs.digests.key_digest.Reads as key_digest
use Rattle.sampling.proofs.digests.rand_of.Kinds as rand_of_kinds
use Rattle.sampling.proofs.digests.rand_of.Reads as rand_of
use Rattle.sampling.proofs.digests.challenge_of.Kinds as challenge_of_kinds
use Rattle.sampling.proofs.digests.challenge_of.Reads as challenge_of
use Rattle.sampling.proofs.drawn.draw_y.Kinds as draw_y_kinds
use Rattle.sampling.proofs.drawn.draw_y.Reads as draw_y
use Rattle.sampling.proofs.drawn.draw_enc.Kinds as draw_enc_kinds
use Rattle.sampling.proofs.drawn.draw_enc.Reads as draw_enc
use Rattle.sampling.proofs.drawn.start_a.Kinds as start_a_kinds
use Rattle.sampling.proofs.drawn.start_a.Reads as start_a
use Rattle.sampling.proofs.drawn.next_a.Kinds as next_a_kinds
use Rattle.sampling.proofs.drawn.next_a.Reads as next_a

-- ---- over a lent stream

pub take_a_result : Result 2 take_a_kinds.ps take_a_kinds.r take_a.Learnt
take_a_result κs a x y e f p q = number_one x y (same_number p.answered q.answered)

pub take_a_out : Output 2 take_a_kinds.ps take_a_kinds.r take_a.Learnt (λ κs e. e.1.0.now)
take_a_out κs a x y e f p q = same_output p.values q.values

pub take_y_result : Result 2 take_y_kinds.ps take_y_kinds.r take_y.Learnt
take_y_result κs a x y e f p q = number_one x y (same_number p.answered q.answered)

pub take_y_out : Output 2 take_y_kinds.ps take_y_kinds.r take_y.Learnt (λ κs e. e.1.0.now)
take_y_out κs a x y e f p q = same_output p.values q.values

pub take_positions_result : Result 3 take_positions_kinds.ps take_positions_kinds.r take_positions.Learnt
take_positions_result κs a x y e f p q = number_one x y (same_number p.answered q.answered)

pub take_positions_places : Output 3 take_positions_kinds.ps take_positions_kinds.r take_positions.Learnt (λ κs e. e.1.0.now)
take_positions_places κs a x y e f p q = same_output p.positions q.positions

pub take_positions_signs : Output 3 take_positions_kinds.ps take_positions_kinds.r take_positions.Learnt (λ κs e. e.1.1.0.now)
take_positions_signs κs a x y e f p q = same_output p.signs q.signs

-- ---- a number as two bytes, and digests

pub two_bytes_determined : Result 0 two_bytes_kinds.ps two_bytes_kinds.r two_bytes.Learnt
two_bytes_determined κs a x y e f p q = p ∙ sym q

pub close_message_determined : Output 1 close_message_kinds.ps close_message_kinds.r close_message.Learnt (λ κs e. e.1.1.0.now)
close_message_determined κs a x y e f p q = p.bytes ∙ sym q.bytes

pub message_digest_determined : Output 2 message_digest_kinds.ps message_digest_kinds.r message_digest.Learnt (λ κs e. e.1.1.0.now)
message_digest_determined κs a x y e f p q = p ∙ sym q

pub joined_digest_determined : Output 3 joined_digest_kinds.ps joined_digest_kinds.r joined_digest.Learnt (λ κs e. e.1.1.1.0.now)
joined_digest_determined κs a x y e f p q = p ∙ sym q

pub key_digest_determined : Output 2 key_digest_kinds.ps key_digest_kinds.r key_digest.Learnt (λ κs e. e.1.1.0.now)
key_digest_determined κs a x y e f p q = p ∙ sym q

pub rand_of_determined : Output 4 rand_of_kinds.ps rand_of_kinds.r rand_of.Learnt (λ κs e. e.1.1.1.1.0.now)
rand_of_determined κs a x y e f p q = p ∙ sym q

pub challenge_of_determined : Output 3 challenge_of_kinds.ps challenge_of_kinds.r challenge_of.Learnt (λ κs e. e.1.1.1.0.now)
challenge_of_determined κs a x y e f p q = p ∙ sym q

-- ---- y and c

pub draw_y_determined : Output 2 draw_y_kinds.ps draw_y_kinds.r draw_y.Learnt (λ κs e. e.1.1.1.0.now)
draw_y_determined κs a x y e f p q = p ∙ sym q

pub draw_enc_positions : Output 3 draw_enc_kinds.ps draw_enc_kinds.r draw_enc.Learnt (λ κs e. e.1.1.0.now)
draw_enc_positions κs a x y e f p q = p.places_are ∙ sym q.places_are

pub draw_enc_signs : Output 3 draw_enc_kinds.ps draw_enc_kinds.r draw_enc.Learnt (λ κs e. e.1.1.1.0.now)
draw_enc_signs κs a x y e f p q = p.signs_are ∙ sym q.signs_are

-- ---- a_1..a_k

pub start_a_values : (κs : Lfts 1) (a : Dens κs start_a_kinds.ps) (x y : (res_t start_a_kinds.r κs).Denot) (e f : AtExit (ended_of 1 start_a_kinds.ps start_a_kinds.r) κs)
    → start_a.Learnt κs a x e → start_a.Learnt κs a y f → values_left a.0 x ≡ values_left a.0 y
start_a_values κs a x y e f p q = p.all ∙ sym q.all

pub start_a_need : (κs : Lfts 1) (a : Dens κs start_a_kinds.ps) (x y : (res_t start_a_kinds.r κs).Denot) (e f : AtExit (ended_of 1 start_a_kinds.ps start_a_kinds.r) κs)
    → start_a.Learnt κs a x e → start_a.Learnt κs a y f → x.need ≡ y.need
start_a_need κs a x y e f p q = p.need_is ∙ sym q.need_is

pub next_a_determined : Output 1 next_a_kinds.ps next_a_kinds.r next_a.Learnt (λ κs e. e.1.1.0.now)
next_a_determined κs a x y e f p q = p.written ∙ sym q.written

pub next_a_values : (κs : Lfts 1) (a : Dens κs next_a_kinds.ps) (x y : (res_t next_a_kinds.r κs).Denot) (e f : AtExit (ended_of 1 next_a_kinds.ps next_a_kinds.r) κs)
    → next_a.Learnt κs a x e → next_a.Learnt κs a y f → values_left a.0 x ≡ values_left a.0 y
next_a_values κs a x y e f p q = p.rest ∙ sym q.rest

pub next_a_need : (κs : Lfts 1) (a : Dens κs next_a_kinds.ps) (x y : (res_t next_a_kinds.r κs).Denot) (e f : AtExit (ended_of 1 next_a_kinds.ps next_a_kinds.r) κs)
    → next_a.Learnt κs a x e → next_a.Learnt κs a y f → x.need ≡ y.need
next_a_need κs a x y e f p q = p.need_is ∙ sym q.need_is
