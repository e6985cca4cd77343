-- `maesikkong::streams::maesikkong_shake256` meets its contract: a blank sponge that absorbs the message and is squeezed gives SHAKE256 of
-- the message. Assumes nothing.
use mathlib.Core.Path.{◌≡◌, refl, ap, ◌∙◌}
use mathlib.Core.List.{List}
use Prim.Native.Nat.{ℕ}
use borrow.Author.Rules.{rules}
use lib.ListN.{length}
use Rattle.whole.specs.Below.{Below}
use Rattle.whole.specs.BelowLaws.{below_bytes}
use Rattle.shake.specs.declared.Sponge.{Sponge}
use Rattle.shake.specs.Sponge.{blank, absorbed, squeezed}
use Rattle.shake.specs.Whole.{shake}
use Rattle.maesikkong.specs.Promises.{Shakes}
use Rattle.maesikkong.proofs.streams.maesikkong_shake256.Goals as goal

shaken : {message old new : List ℕ} {s₀ s₁ : Sponge} → Below 256 message → s₀ ≡ blank → s₁ ≡ absorbed s₀ message → new ≡ squeezed (length old) s₁
    → Shakes message old new 0
shaken {message} {old} below e f g =
    record {
      number_is = refl;
      out_is = g ∙ ap (squeezed (length old)) (f ∙ ap (λ (s : Sponge). absorbed s message) e) ∙ shake message (length old) below;
    }

pub returns : goal.returns
returns c = search (shaken, below_bytes _ (λ i. (c.type_inv.message i).fits), rules)
