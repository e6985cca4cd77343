-- The contracts of the signature record's public functions determine their results and their outputs: the record, z and c'. What scratch
-- holds afterwards is left open.
-- Assumes nothing.
use mathlib.Core.Path.{sym, ◌∙◌}
use Rattle.whole.specs.Determined.{Result, Output}
use Rattle.answers.specs.Answers.{number_one}
use Rattle.signatures.proofs.signature_bytes.Kinds as signature_bytes_kinds
use Rattle.signatures.proofs.signature_bytes.Reads as signature_bytes
use Rattle.signatures.proofs.z_in_range.Kinds as z_in_range_kinds
use Rattle.signatures.proofs.z_in_range.Reads as z_in_range
use Rattle.signatures.proofs.z_passes.Kinds as z_passes_kinds
use Rattle.signatures.proofs.z_passes.Reads as z_passes
use Rattle.signatures.proofs.unpack_z.Kinds as unpack_z_kinds
use Rattle.signatures.proofs.unpack_z.Reads as unpack_z
use Rattle.signatures.proofs.write_checked.Kinds as write_checked_kinds
use Rattle.signatures.proofs.write_checked.Reads as write_checked
use Rattle.signatures.proofs.write_signature.Kinds as write_signature_kinds
use Rattle.signatures.proofs.write_signature.Reads as write_signature
use Rattle.signatures.proofs.read_signature.Kinds as read_signature_kinds
use Rattle.signatures.proofs.read_signature.Reads as read_signature

pub signature_bytes_determined : Result 0 signature_bytes_kinds.ps signature_bytes_kinds.r signature_bytes.Learnt
signature_bytes_determined κs a x y e f p q = p ∙ sym q

pub z_in_range_determined : Result 1 z_in_range_kinds.ps z_in_range_kinds.r z_in_range.Learnt
z_in_range_determined κs a x y e f p q = p ∙ sym q

pub z_passes_determined : Result 1 z_passes_kinds.ps z_passes_kinds.r z_passes.Learnt
z_passes_determined κs a x y e f p q = p ∙ sym q

pub unpack_z_z : Output 3 unpack_z_kinds.ps unpack_z_kinds.r unpack_z.Learnt (λ κs e. e.1.1.0.now)
unpack_z_z κs a x y e f p q = p ∙ sym q

pub write_checked_signature : Output 4 write_checked_kinds.ps write_checked_kinds.r write_checked.Learnt (λ κs e. e.1.1.1.0.now)
write_checked_signature κs a x y e f p q = p ∙ sym q

-- an answer has its number to itself
pub write_signature_determined : Result 3 write_signature_kinds.ps write_signature_kinds.r write_signature.Learnt
write_signature_determined κs a x y e f p q = number_one x y (p.answered.is ∙ sym q.answered.is)

pub write_signature_signature : Output 3 write_signature_kinds.ps write_signature_kinds.r write_signature.Learnt (λ κs e. e.1.1.0.now)
write_signature_signature κs a x y e f p q = p.signature.is ∙ sym q.signature.is

pub read_signature_determined : Result 3 read_signature_kinds.ps read_signature_kinds.r read_signature.Learnt
read_signature_determined κs a x y e f p q = number_one x y (p.answered.is ∙ sym q.answered.is)

pub read_signature_z : Output 3 read_signature_kinds.ps read_signature_kinds.r read_signature.Learnt (λ κs e. e.1.0.now)
read_signature_z κs a x y e f p q = p.z.is ∙ sym q.z.is

pub read_signature_c : Output 3 read_signature_kinds.ps read_signature_kinds.r read_signature.Learnt (λ κs e. e.1.1.0.now)
read_signature_c κs a x y e f p q = p.c.is ∙ sym q.c.is
