-- The high parts of one polynomial more, and c' of them. Assumes nothing.
use mathlib.Core.Path.{◌≡◌, refl, sym, ap, ◌∙◌}
use mathlib.Core.Bool.{Bool, true, ◌&&◌}
use mathlib.Core.List.{List, [], map, map-map}
use Prim.Native.Nat.{ℕ}
use lib.IntN.{pos}
use Rattle.whole.specs.Below.{Below}
use Rattle.whole.specs.Every.{every}
use Rattle.whole.specs.EveryLaws.{every_map}
use Rattle.whole.specs.Twos.{twos}
use Rattle.whole.specs.TwosLaws.{twos_all_below}
use Rattle.rounding.specs.Parts.{high}
use Rattle.rounding.specs.Tests.{fits_byte}
use Rattle.shake.specs.declared.Sponge.{Sponge}
use Rattle.shake.specs.Sponge.{blank, absorbed, squeezed}
use Rattle.shake.specs.Pieces.{absorbed_absorbed}
use Rattle.sets.specs.declared.Numbers.{Numbers}
use Rattle.sets.specs.Good.{Good}
use Rattle.sets.specs.Marks.{stream_mark, fresh}
use Rattle.sampling.specs.SpongeLaws.{challenge_squeezed}
use Rattle.highs.specs.declared.Highs.{Highs}
use Rattle.highs.specs.Highs.{Held, Adds, Hashes}

-- a fresh state has absorbed nothing past its mark
fresh_none : (digit j : ℕ) → fresh digit j ≡ absorbed (fresh digit j) []
unfolding fresh
fresh_none digit j = sym (absorbed_absorbed blank (stream_mark digit j) [])

pub held_none : {set : Numbers} {state : Sponge} → state ≡ fresh set.digit 6 → Held set [] (record { state = state; fit = true })
unfolding every
held_none {set} e = record { state_is = e ∙ fresh_none set.digit 6; fit_is = refl }

-- ---- one polynomial more

pub highs_added : {set : Numbers} {before : Highs} (v : List ℕ) {bytes : List ℕ} {fits : Bool} {after : Sponge}
    → fits ≡ every (λ x. fits_byte (high set.q set.d (pos x))) v
    → bytes ≡ map (λ x. twos 8 (high set.q set.d (pos x))) v
    → after ≡ absorbed before.state bytes
    → Adds set before v (record { state = after; fit = before.fit && fits })
highs_added {set} {before} v ef eb es =
    record {
      state_is = es ∙ ap (λ (l : List ℕ). absorbed before.state l) (eb ∙ sym (map-map (twos 8) (λ x. high set.q set.d (pos x)) v));
      fit_is = ap (λ (b : Bool). before.fit && b) (ef ∙ sym (every_map fits_byte (λ x. high set.q set.d (pos x)) v));
    }

-- ---- c'

pub highs_hashed : {set : Numbers} {highs : Highs} {digest g c' : List ℕ} → Good set → Below 256 digest → Below 256 g
    → c' ≡ squeezed 32 (absorbed (absorbed highs.state digest) g) → Hashes set highs digest g c'
highs_hashed {set} {digest = digest} {g = g} good d b e =
    record {
      bytes = e;
      is = λ parts h.
          e
          ∙ ap (λ (s : Sponge). squeezed 32 (absorbed (absorbed s digest) g)) h.state_is
          ∙ challenge_squeezed set good parts (map (twos 8) parts) digest g refl (twos_all_below 8 parts) d b;
    }
