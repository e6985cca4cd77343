-- The contracts of the exported functions determine their numbers and what each output holds at exit. Assumes nothing.
use mathlib.Core.Path.{sym, ◌∙◌}
use Rattle.whole.specs.Determined.{Result, Output}
use Rattle.answers.specs.OutputLaws.{same_number, same_output}
use Rattle.maesikkong.proofs.key.maesikkong_make_key.Kinds as make_key_kinds
use Rattle.maesikkong.proofs.key.maesikkong_make_key.Reads as make_key
use Rattle.maesikkong.proofs.sign.maesikkong_sign.Kinds as sign_kinds
use Rattle.maesikkong.proofs.sign.maesikkong_sign.Reads as sign
use Rattle.maesikkong.proofs.sign.maesikkong_sign_roster.Kinds as sign_roster_kinds
use Rattle.maesikkong.proofs.sign.maesikkong_sign_roster.Reads as sign_roster
use Rattle.maesikkong.proofs.check.maesikkong_check.Kinds as check_kinds
use Rattle.maesikkong.proofs.check.maesikkong_check.Reads as check
use Rattle.maesikkong.proofs.key_records.maesikkong_write_public.Kinds as write_public_kinds
use Rattle.maesikkong.proofs.key_records.maesikkong_write_public.Reads as write_public
use Rattle.maesikkong.proofs.key_records.maesikkong_read_public.Kinds as read_public_kinds
use Rattle.maesikkong.proofs.key_records.maesikkong_read_public.Reads as read_public
use Rattle.maesikkong.proofs.key_records.maesikkong_write_secret.Kinds as write_secret_kinds
use Rattle.maesikkong.proofs.key_records.maesikkong_write_secret.Reads as write_secret
use Rattle.maesikkong.proofs.key_records.maesikkong_read_secret.Kinds as read_secret_kinds
use Rattle.maesikkong.proofs.key_records.maesikkong_read_secret.Reads as read_secret
use Rattle.maesikkong.proofs.signature_records.maesikkong_write_signature.Kinds as write_signature_kinds
use Rattle.maesikkong.proofs.signature_records.maesikkong_write_signature.Reads as write_signature
use Rattle.maesikkong.proofs.signature_records.maesikkong_read_signature.Kinds as read_signature_kinds
use Rattle.maesikkong.proofs.signature_records.maesikkong_read_signature.Reads as read_signature
use Rattle.maesikkong.proofs.envelopes.maesikkong_write_envelope.Kinds as write_envelope_kinds
use Rattle.maesikkong.proofs.envelopes.maesikkong_write_envelope.Reads as write_envelope
use Rattle.maesikkong.proofs.envelopes.maesikkong_read_envelope.Kinds as read_envelope_kinds
use Rattle.maesikkong.proofs.envelopes.maesikkong_read_envelope.Reads as read_envelope
use Rattle.maesikkong.proofs.envelopes.maesikkong_open_envelope.Kinds as open_envelope_kinds
use Rattle.maesikkong.proofs.envelopes.maesikkong_open_envelope.Reads as open_envelope
use Rattle.maesikkong.proofs.streams.maesikkong_take_a.Kinds as take_a_kinds
use Rattle.maesikkong.proofs.streams.maesikkong_take_a.Reads as take_a
use Rattle.maesikkong.proofs.streams.maesikkong_take_y.Kinds as take_y_kinds
use Rattle.maesikkong.proofs.streams.maesikkong_take_y.Reads as take_y
use Rattle.maesikkong.proofs.streams.maesikkong_take_positions.Kinds as take_positions_kinds
use Rattle.maesikkong.proofs.streams.maesikkong_take_positions.Reads as take_positions
use Rattle.maesikkong.proofs.streams.maesikkong_shake256.Kinds as shake256_kinds
use Rattle.maesikkong.proofs.streams.maesikkong_shake256.Reads as shake256

pub make_key_number : Result 6 make_key_kinds.ps make_key_kinds.r make_key.Learnt
make_key_number κs a x y e f p q = same_number p.answered q.answered

pub make_key_public : Output 6 make_key_kinds.ps make_key_kinds.r make_key.Learnt (λ κs e. e.1.1.1.1.0.now)
make_key_public κs a x y e f p q = same_output p.public q.public

pub make_key_secret : Output 6 make_key_kinds.ps make_key_kinds.r make_key.Learnt (λ κs e. e.1.1.1.1.1.0.now)
make_key_secret κs a x y e f p q = same_output p.secret q.secret

pub sign_number : Result 5 sign_kinds.ps sign_kinds.r sign.Learnt
sign_number κs a x y e f p q = p.number_is ∙ sym q.number_is

pub sign_counter : Output 5 sign_kinds.ps sign_kinds.r sign.Learnt (λ κs e. e.1.1.1.1.1.0.now)
sign_counter κs a x y e f p q = p.counter_is ∙ sym q.counter_is

pub sign_signature : Output 5 sign_kinds.ps sign_kinds.r sign.Learnt (λ κs e. e.1.1.1.1.0.now)
sign_signature κs a x y e f p q = p.signature_is ∙ sym q.signature_is

pub sign_roster_number : Result 5 sign_roster_kinds.ps sign_roster_kinds.r sign_roster.Learnt
sign_roster_number κs a x y e f p q = p.number_is ∙ sym q.number_is

pub sign_roster_counter : Output 5 sign_roster_kinds.ps sign_roster_kinds.r sign_roster.Learnt (λ κs e. e.1.1.1.1.1.1.0.now)
sign_roster_counter κs a x y e f p q = p.counter_is ∙ sym q.counter_is

pub sign_roster_signature : Output 5 sign_roster_kinds.ps sign_roster_kinds.r sign_roster.Learnt (λ κs e. e.1.1.1.1.1.0.now)
sign_roster_signature κs a x y e f p q = p.signature_is ∙ sym q.signature_is

pub check_number : Result 3 check_kinds.ps check_kinds.r check.Learnt
check_number κs a x y e f p q = same_number p q

pub write_public_number : Result 3 write_public_kinds.ps write_public_kinds.r write_public.Learnt
write_public_number κs a x y e f p q = same_number p.answered q.answered

pub write_public_public : Output 3 write_public_kinds.ps write_public_kinds.r write_public.Learnt (λ κs e. e.1.1.0.now)
write_public_public κs a x y e f p q = same_output p.public q.public

pub read_public_number : Result 3 read_public_kinds.ps read_public_kinds.r read_public.Learnt
read_public_number κs a x y e f p q = same_number p.answered q.answered

pub read_public_t : Output 3 read_public_kinds.ps read_public_kinds.r read_public.Learnt (λ κs e. e.1.0.now)
read_public_t κs a x y e f p q = same_output p.t q.t

pub read_public_seed_a : Output 3 read_public_kinds.ps read_public_kinds.r read_public.Learnt (λ κs e. e.1.1.0.now)
read_public_seed_a κs a x y e f p q = same_output p.seed_a q.seed_a

pub write_secret_number : Result 6 write_secret_kinds.ps write_secret_kinds.r write_secret.Learnt
write_secret_number κs a x y e f p q = same_number p.answered q.answered

pub write_secret_secret : Output 6 write_secret_kinds.ps write_secret_kinds.r write_secret.Learnt (λ κs e. e.1.1.1.1.1.0.now)
write_secret_secret κs a x y e f p q = same_output p.secret q.secret

pub read_secret_number : Result 6 read_secret_kinds.ps read_secret_kinds.r read_secret.Learnt
read_secret_number κs a x y e f p q = same_number p.answered q.answered

pub read_secret_s : Output 6 read_secret_kinds.ps read_secret_kinds.r read_secret.Learnt (λ κs e. e.1.0.now)
read_secret_s κs a x y e f p q = same_output p.s q.s

pub read_secret_e : Output 6 read_secret_kinds.ps read_secret_kinds.r read_secret.Learnt (λ κs e. e.1.1.0.now)
read_secret_e κs a x y e f p q = same_output p.e q.e

pub read_secret_seed_a : Output 6 read_secret_kinds.ps read_secret_kinds.r read_secret.Learnt (λ κs e. e.1.1.1.0.now)
read_secret_seed_a κs a x y e f p q = same_output p.seed_a q.seed_a

pub read_secret_seed_y : Output 6 read_secret_kinds.ps read_secret_kinds.r read_secret.Learnt (λ κs e. e.1.1.1.1.0.now)
read_secret_seed_y κs a x y e f p q = same_output p.seed_y q.seed_y

pub read_secret_g : Output 6 read_secret_kinds.ps read_secret_kinds.r read_secret.Learnt (λ κs e. e.1.1.1.1.1.0.now)
read_secret_g κs a x y e f p q = same_output p.g q.g

pub write_signature_number : Result 3 write_signature_kinds.ps write_signature_kinds.r write_signature.Learnt
write_signature_number κs a x y e f p q = same_number p.answered q.answered

pub write_signature_signature : Output 3 write_signature_kinds.ps write_signature_kinds.r write_signature.Learnt (λ κs e. e.1.1.0.now)
write_signature_signature κs a x y e f p q = same_output p.signature q.signature

pub read_signature_number : Result 3 read_signature_kinds.ps read_signature_kinds.r read_signature.Learnt
read_signature_number κs a x y e f p q = same_number p.answered q.answered

pub read_signature_z : Output 3 read_signature_kinds.ps read_signature_kinds.r read_signature.Learnt (λ κs e. e.1.0.now)
read_signature_z κs a x y e f p q = same_output p.z q.z

pub read_signature_c : Output 3 read_signature_kinds.ps read_signature_kinds.r read_signature.Learnt (λ κs e. e.1.1.0.now)
read_signature_c κs a x y e f p q = same_output p.c q.c

pub write_envelope_number : Result 3 write_envelope_kinds.ps write_envelope_kinds.r write_envelope.Learnt
write_envelope_number κs a x y e f p q = same_number p.answered q.answered

pub write_envelope_envelope : Output 3 write_envelope_kinds.ps write_envelope_kinds.r write_envelope.Learnt (λ κs e. e.1.1.1.0.now)
write_envelope_envelope κs a x y e f p q = same_output p.envelope q.envelope

pub read_envelope_number : Result 4 read_envelope_kinds.ps read_envelope_kinds.r read_envelope.Learnt
read_envelope_number κs a x y e f p q = same_number p.opens.answered q.opens.answered

pub read_envelope_team : Output 4 read_envelope_kinds.ps read_envelope_kinds.r read_envelope.Learnt (λ κs e. e.1.0.now)
read_envelope_team κs a x y e f p q = same_output p.opens.team_is q.opens.team_is

pub read_envelope_start : Output 4 read_envelope_kinds.ps read_envelope_kinds.r read_envelope.Learnt (λ κs e. e.1.1.0.now)
read_envelope_start κs a x y e f p q = same_output p.start_is q.start_is

pub read_envelope_len : Output 4 read_envelope_kinds.ps read_envelope_kinds.r read_envelope.Learnt (λ κs e. e.1.1.1.0.now)
read_envelope_len κs a x y e f p q = same_output p.opens.len_is q.opens.len_is

pub open_envelope_number : Result 5 open_envelope_kinds.ps open_envelope_kinds.r open_envelope.Learnt
open_envelope_number κs a x y e f p q = same_number p.opens.answered q.opens.answered

pub open_envelope_team : Output 5 open_envelope_kinds.ps open_envelope_kinds.r open_envelope.Learnt (λ κs e. e.1.1.0.now)
open_envelope_team κs a x y e f p q = same_output p.opens.team_is q.opens.team_is

pub open_envelope_start : Output 5 open_envelope_kinds.ps open_envelope_kinds.r open_envelope.Learnt (λ κs e. e.1.1.1.0.now)
open_envelope_start κs a x y e f p q = same_output p.start_is q.start_is

pub open_envelope_len : Output 5 open_envelope_kinds.ps open_envelope_kinds.r open_envelope.Learnt (λ κs e. e.1.1.1.1.0.now)
open_envelope_len κs a x y e f p q = same_output p.opens.len_is q.opens.len_is

pub take_a_number : Result 2 take_a_kinds.ps take_a_kinds.r take_a.Learnt
take_a_number κs a x y e f p q = same_number p.answered q.answered

pub take_a_out : Output 2 take_a_kinds.ps take_a_kinds.r take_a.Learnt (λ κs e. e.1.0.now)
take_a_out κs a x y e f p q = same_output p.values q.values

pub take_y_number : Result 2 take_y_kinds.ps take_y_kinds.r take_y.Learnt
take_y_number κs a x y e f p q = same_number p.answered q.answered

pub take_y_out : Output 2 take_y_kinds.ps take_y_kinds.r take_y.Learnt (λ κs e. e.1.0.now)
take_y_out κs a x y e f p q = same_output p.values q.values

pub take_positions_number : Result 3 take_positions_kinds.ps take_positions_kinds.r take_positions.Learnt
take_positions_number κs a x y e f p q = same_number p.answered q.answered

pub take_positions_positions : Output 3 take_positions_kinds.ps take_positions_kinds.r take_positions.Learnt (λ κs e. e.1.0.now)
take_positions_positions κs a x y e f p q = same_output p.positions q.positions

pub take_positions_signs : Output 3 take_positions_kinds.ps take_positions_kinds.r take_positions.Learnt (λ κs e. e.1.1.0.now)
take_positions_signs κs a x y e f p q = same_output p.signs q.signs

pub shake256_number : Result 2 shake256_kinds.ps shake256_kinds.r shake256.Learnt
shake256_number κs a x y e f p q = p.number_is ∙ sym q.number_is

pub shake256_out : Output 2 shake256_kinds.ps shake256_kinds.r shake256.Learnt (λ κs e. e.1.0.now)
shake256_out κs a x y e f p q = p.out_is ∙ sym q.out_is
