-- What the entries of the signature record promise, in any set: the number that comes back, and what each output holds. And what the
-- function promises that takes a record's values out.
-- Assumes nothing: these are definitions.
use Rattle.std.specs.Prelude.{◌≡◌, List, ℕ, ℤ, length}
use Rattle.answers.specs.Tests.{Answered, Output}
use Rattle.sets.specs.declared.Numbers.{Numbers}
use Rattle.signatures.specs.Signature.{signature_record, z_of, challenge_of, read_signature_tests, write_signature_tests}

-- writing a record: `old` is what the output held, `new` what it holds
pub record WritesSignature (set : Numbers) (z : List ℤ) (c' old new : List ℕ) (number : ℕ) : Type 0 where
  pub answered : Answered (write_signature_tests set z c' (length old)) number
  pub signature : Output (write_signature_tests set z c' (length old)) (signature_record set z c') old new

-- reading a record into z and c'
pub record ReadsSignature (set : Numbers) (signature : List ℕ) (old_z newZ : List ℤ) (old_c new_c : List ℕ) (number : ℕ) : Type 0 where
  pub answered : Answered (read_signature_tests set signature (length old_z) (length old_c)) number
  pub z : Output (read_signature_tests set signature (length old_z) (length old_c)) (z_of set signature) old_z newZ
  pub c : Output (read_signature_tests set signature (length old_z) (length old_c)) (challenge_of set signature) old_c new_c

-- the values that are taken out of a record
pub record TookSignature (set : Numbers) (signature : List ℕ) (z : List ℤ) (c' : List ℕ) : Type 0 where
  pub z_is : z ≡ z_of set signature
  pub c_is : c' ≡ challenge_of set signature
