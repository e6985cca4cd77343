-- The goals of `signatures::z_passes_in` that want an answer by hand. Assumes nothing.
use borrow.Author.Rules.{rules}
use Rattle.signatures.proofs.Steps.{scan_asked, range_of_bits}
use Rattle.signatures.proofs.z_passes_in.Goals as goal

pub bits_in_range-requires : goal.bits_in_range-requires
bits_in_range-requires c = search (scan_asked, rules)

pub returns : goal.returns
returns c = search (range_of_bits, rules)
