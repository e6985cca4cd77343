-- The contracts of this crate's public functions determine their results and what each output holds at exit.
-- Assumes nothing.
use mathlib.Core.Path.{sym, ◌∙◌}
use Rattle.whole.specs.Determined.{Result, Output}
use Rattle.answers.specs.Answers.{number_one}
use Rattle.records.proofs.write_public.Kinds as write_public_kinds
use Rattle.records.proofs.write_public.Reads as write_public
use Rattle.records.proofs.read_public.Kinds as read_public_kinds
use Rattle.records.proofs.read_public.Reads as read_public
use Rattle.records.proofs.write_secret.Kinds as write_secret_kinds
use Rattle.records.proofs.write_secret.Reads as write_secret
use Rattle.records.proofs.read_secret.Kinds as read_secret_kinds
use Rattle.records.proofs.read_secret.Reads as read_secret
use Rattle.records.proofs.choice.set_of.Kinds as choice_set_of_kinds
use Rattle.records.proofs.choice.set_of.Reads as choice_set_of
use Rattle.records.proofs.choice.own_set.Kinds as choice_own_set_kinds
use Rattle.records.proofs.choice.own_set.Reads as choice_own_set
use Rattle.records.proofs.pieces.copy_at.Kinds as pieces_copy_at_kinds
use Rattle.records.proofs.pieces.copy_at.Reads as pieces_copy_at
use Rattle.records.proofs.pieces.copy_out.Kinds as pieces_copy_out_kinds
use Rattle.records.proofs.pieces.copy_out.Reads as pieces_copy_out
use Rattle.records.proofs.pieces.write_mark.Kinds as pieces_write_mark_kinds
use Rattle.records.proofs.pieces.write_mark.Reads as pieces_write_mark
use Rattle.records.proofs.pieces.byte_at.Kinds as pieces_byte_at_kinds
use Rattle.records.proofs.pieces.byte_at.Reads as pieces_byte_at
use Rattle.records.proofs.pieces.is_marked.Kinds as pieces_is_marked_kinds
use Rattle.records.proofs.pieces.is_marked.Reads as pieces_is_marked
use Rattle.records.proofs.public.t_bytes.Kinds as public_t_bytes_kinds
use Rattle.records.proofs.public.t_bytes.Reads as public_t_bytes
use Rattle.records.proofs.public.seed_start.Kinds as public_seed_start_kinds
use Rattle.records.proofs.public.seed_start.Reads as public_seed_start
use Rattle.records.proofs.public.public_bytes.Kinds as public_public_bytes_kinds
use Rattle.records.proofs.public.public_bytes.Reads as public_public_bytes
use Rattle.records.proofs.public.t_in_range.Kinds as public_t_in_range_kinds
use Rattle.records.proofs.public.t_in_range.Reads as public_t_in_range
use Rattle.records.proofs.public.t_passes.Kinds as public_t_passes_kinds
use Rattle.records.proofs.public.t_passes.Reads as public_t_passes
use Rattle.records.proofs.public.unpack_t.Kinds as public_unpack_t_kinds
use Rattle.records.proofs.public.unpack_t.Reads as public_unpack_t
use Rattle.records.proofs.public.pack_t.Kinds as public_pack_t_kinds
use Rattle.records.proofs.public.pack_t.Reads as public_pack_t
use Rattle.records.proofs.secret.e_start.Kinds as secret_e_start_kinds
use Rattle.records.proofs.secret.e_start.Reads as secret_e_start
use Rattle.records.proofs.secret.seed_a_start.Kinds as secret_seed_a_start_kinds
use Rattle.records.proofs.secret.seed_a_start.Reads as secret_seed_a_start
use Rattle.records.proofs.secret.seed_y_start.Kinds as secret_seed_y_start_kinds
use Rattle.records.proofs.secret.seed_y_start.Reads as secret_seed_y_start
use Rattle.records.proofs.secret.g_start.Kinds as secret_g_start_kinds
use Rattle.records.proofs.secret.g_start.Reads as secret_g_start
use Rattle.records.proofs.secret.secret_bytes.Kinds as secret_secret_bytes_kinds
use Rattle.records.proofs.secret.secret_bytes.Reads as secret_secret_bytes
use Rattle.records.proofs.secret.in_byte_range.Kinds as secret_in_byte_range_kinds
use Rattle.records.proofs.secret.in_byte_range.Reads as secret_in_byte_range
use Rattle.records.proofs.secret.put.Kinds as secret_put_kinds
use Rattle.records.proofs.secret.put.Reads as secret_put

-- ---- the entries. An answer has its number to itself

pub write_public_determined : Result 3 write_public_kinds.ps write_public_kinds.r write_public.Learnt
write_public_determined κs a x y e f p q = number_one x y (p.answered.is ∙ sym q.answered.is)

pub write_public_public : Output 3 write_public_kinds.ps write_public_kinds.r write_public.Learnt (λ κs e. e.1.1.0.now)
write_public_public κs a x y e f p q = p.public.is ∙ sym q.public.is

pub read_public_determined : Result 3 read_public_kinds.ps read_public_kinds.r read_public.Learnt
read_public_determined κs a x y e f p q = number_one x y (p.answered.is ∙ sym q.answered.is)

pub read_public_t : Output 3 read_public_kinds.ps read_public_kinds.r read_public.Learnt (λ κs e. e.1.0.now)
read_public_t κs a x y e f p q = p.t.is ∙ sym q.t.is

pub read_public_seed_a : Output 3 read_public_kinds.ps read_public_kinds.r read_public.Learnt (λ κs e. e.1.1.0.now)
read_public_seed_a κs a x y e f p q = p.seed_a.is ∙ sym q.seed_a.is

pub write_secret_determined : Result 6 write_secret_kinds.ps write_secret_kinds.r write_secret.Learnt
write_secret_determined κs a x y e f p q = number_one x y (p.answered.is ∙ sym q.answered.is)

pub write_secret_secret : Output 6 write_secret_kinds.ps write_secret_kinds.r write_secret.Learnt (λ κs e. e.1.1.1.1.1.0.now)
write_secret_secret κs a x y e f p q = p.secret.is ∙ sym q.secret.is

pub read_secret_determined : Result 6 read_secret_kinds.ps read_secret_kinds.r read_secret.Learnt
read_secret_determined κs a x y e f p q = number_one x y (p.answered.is ∙ sym q.answered.is)

pub read_secret_s : Output 6 read_secret_kinds.ps read_secret_kinds.r read_secret.Learnt (λ κs e. e.1.0.now)
read_secret_s κs a x y e f p q = p.s.is ∙ sym q.s.is

pub read_secret_e : Output 6 read_secret_kinds.ps read_secret_kinds.r read_secret.Learnt (λ κs e. e.1.1.0.now)
read_secret_e κs a x y e f p q = p.e.is ∙ sym q.e.is

pub read_secret_seed_a : Output 6 read_secret_kinds.ps read_secret_kinds.r read_secret.Learnt (λ κs e. e.1.1.1.0.now)
read_secret_seed_a κs a x y e f p q = p.seed_a.is ∙ sym q.seed_a.is

pub read_secret_seed_y : Output 6 read_secret_kinds.ps read_secret_kinds.r read_secret.Learnt (λ κs e. e.1.1.1.1.0.now)
read_secret_seed_y κs a x y e f p q = p.seed_y.is ∙ sym q.seed_y.is

pub read_secret_g : Output 6 read_secret_kinds.ps read_secret_kinds.r read_secret.Learnt (λ κs e. e.1.1.1.1.1.0.now)
read_secret_g κs a x y e f p q = p.g.is ∙ sym q.g.is

-- ---- the choice

pub choice_set_of_determined : Result 1 choice_set_of_kinds.ps choice_set_of_kinds.r choice_set_of.Learnt
choice_set_of_determined κs a x y e f p q = p ∙ sym q

pub choice_own_set_determined : Result 1 choice_own_set_kinds.ps choice_own_set_kinds.r choice_own_set.Learnt
choice_own_set_determined κs a x y e f p q = p ∙ sym q

-- ---- pieces

pub pieces_copy_at_to : Output 2 pieces_copy_at_kinds.ps pieces_copy_at_kinds.r pieces_copy_at.Learnt (λ κs e. e.1.0.now)
pieces_copy_at_to κs a x y e f p q = p ∙ sym q

pub pieces_copy_out_to : Output 2 pieces_copy_out_kinds.ps pieces_copy_out_kinds.r pieces_copy_out.Learnt (λ κs e. e.1.1.0.now)
pieces_copy_out_to κs a x y e f p q = p ∙ sym q

pub pieces_write_mark_out : Output 1 pieces_write_mark_kinds.ps pieces_write_mark_kinds.r pieces_write_mark.Learnt (λ κs e. e.1.1.0.now)
pieces_write_mark_out κs a x y e f p q = p ∙ sym q

pub pieces_byte_at_determined : Result 1 pieces_byte_at_kinds.ps pieces_byte_at_kinds.r pieces_byte_at.Learnt
pieces_byte_at_determined κs a x y e f p q = p ∙ sym q

pub pieces_is_marked_determined : Result 1 pieces_is_marked_kinds.ps pieces_is_marked_kinds.r pieces_is_marked.Learnt
pieces_is_marked_determined κs a x y e f p q = p ∙ sym q

-- ---- the public record

pub public_t_bytes_determined : Result 0 public_t_bytes_kinds.ps public_t_bytes_kinds.r public_t_bytes.Learnt
public_t_bytes_determined κs a x y e f p q = p ∙ sym q

pub public_seed_start_determined : Result 0 public_seed_start_kinds.ps public_seed_start_kinds.r public_seed_start.Learnt
public_seed_start_determined κs a x y e f p q = p ∙ sym q

pub public_public_bytes_determined : Result 0 public_public_bytes_kinds.ps public_public_bytes_kinds.r public_public_bytes.Learnt
public_public_bytes_determined κs a x y e f p q = p ∙ sym q

pub public_t_in_range_determined : Result 1 public_t_in_range_kinds.ps public_t_in_range_kinds.r public_t_in_range.Learnt
public_t_in_range_determined κs a x y e f p q = p ∙ sym q

pub public_t_passes_determined : Result 1 public_t_passes_kinds.ps public_t_passes_kinds.r public_t_passes.Learnt
public_t_passes_determined κs a x y e f p q = p ∙ sym q

pub public_unpack_t_out : Output 2 public_unpack_t_kinds.ps public_unpack_t_kinds.r public_unpack_t.Learnt (λ κs e. e.1.1.1.0.now)
public_unpack_t_out κs a x y e f p q = p ∙ sym q

pub public_pack_t_public : Output 2 public_pack_t_kinds.ps public_pack_t_kinds.r public_pack_t.Learnt (λ κs e. e.1.1.1.0.now)
public_pack_t_public κs a x y e f p q = p ∙ sym q

-- ---- the secret record

pub secret_e_start_determined : Result 0 secret_e_start_kinds.ps secret_e_start_kinds.r secret_e_start.Learnt
secret_e_start_determined κs a x y e f p q = p ∙ sym q

pub secret_seed_a_start_determined : Result 0 secret_seed_a_start_kinds.ps secret_seed_a_start_kinds.r secret_seed_a_start.Learnt
secret_seed_a_start_determined κs a x y e f p q = p ∙ sym q

pub secret_seed_y_start_determined : Result 0 secret_seed_y_start_kinds.ps secret_seed_y_start_kinds.r secret_seed_y_start.Learnt
secret_seed_y_start_determined κs a x y e f p q = p ∙ sym q

pub secret_g_start_determined : Result 0 secret_g_start_kinds.ps secret_g_start_kinds.r secret_g_start.Learnt
secret_g_start_determined κs a x y e f p q = p ∙ sym q

pub secret_secret_bytes_determined : Result 0 secret_secret_bytes_kinds.ps secret_secret_bytes_kinds.r secret_secret_bytes.Learnt
secret_secret_bytes_determined κs a x y e f p q = p ∙ sym q

pub secret_in_byte_range_determined : Result 1 secret_in_byte_range_kinds.ps secret_in_byte_range_kinds.r secret_in_byte_range.Learnt
secret_in_byte_range_determined κs a x y e f p q = p ∙ sym q

pub secret_put_secret : Output 6 secret_put_kinds.ps secret_put_kinds.r secret_put.Learnt (λ κs e. e.1.1.1.1.1.1.0.now)
secret_put_secret κs a x y e f p q = p ∙ sym q
