-- The loop of `rounding::polynomial::high_bytes`: the bytes of the first k high parts are written, and `fits` says whether those fit.
-- Assumes nothing.
use Rattle.std.proofs.Common.{◌≡◌, map, pos, take}
use Rattle.std.specs.List.{list_all}
use Rattle.whole.specs.Twos.{twos}
use Rattle.rounding.specs.Parts.{high}
use Rattle.rounding.specs.Tests.{fits_byte}
use Rattle.rounding.proofs.polynomial.high_bytes.Given as goal

abbrev pub invariant-loop-k : goal.invariant-loop-k
invariant-loop-k l =
    (take l.k l.out ≡ map (λ x. twos 8 (high l.q l.d (pos x))) (take l.k l.w))
    × (l.fits ≡ list_all (λ x. fits_byte (high l.q l.d (pos x))) (take l.k l.w))
