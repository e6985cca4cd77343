-- The loop of `sampling::keep_values`. Its invariant: what is taken of the first candidates is stored. Assumes nothing.
use mathlib.Core.Path.{◌≡◌}
use Prim.Native.Nat.{ℕ, ◌-◌, ◌<◌}
use Rattle.sampling.proofs.ValueSteps.{Taking}
use Rattle.sampling.proofs.keep_values.Given as goal

abbrev pub invariant-loop-bytes : goal.invariant-loop-bytes
invariant-loop-bytes g l =
    Taking (λ h. (v : ℕ) (x : g.row.T.Denot) → v < l.range → g.F.Fn.post l.keep (v, tt) x → x ≡ h v) l.range l.need l.later g.row.SIZE l.bits
    l.stretch l.initial.out l.at l.out l.next (l.need - (l.next - l.at)) l.left l.bytes-index
