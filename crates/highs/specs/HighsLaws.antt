-- Laws of the high parts on the way to c'.
--     held_more       what is held after one polynomial more
--     hashes_long     c' has 32 bytes
-- Assumes nothing.
use Rattle.std.specs.Prelude.{◌≡◌, ◌&&◌, List, ◌++◌, map, ℕ, ℤ, length}
use Rattle.std.proofs.Common.{sym, ap, ◌∙◌}
use Rattle.std.proofs.lemmas.List.{map-append}
use Rattle.whole.specs.Every.{every}
use Rattle.whole.specs.EveryLaws.{every_append}
use Rattle.whole.specs.Twos.{twos}
use Rattle.rounding.specs.Tests.{fits_byte}
use Rattle.shake.specs.Sponge.{absorbed}
use Rattle.shake.specs.Pieces.{absorbed_absorbed, length_squeezed}
use Rattle.sets.specs.declared.Numbers.{Numbers}
use Rattle.sets.specs.Limits.{seed_bytes}
use Rattle.sets.specs.Marks.{fresh}
use Rattle.highs.specs.declared.Highs.{Highs}
use Rattle.sampling.specs.Streams.{high_parts}
use Rattle.highs.specs.Highs.{Held, Adds, Hashes}

pub held_more : {set : Numbers} {parts : List ℤ} {before : Highs} {v : List ℕ} {r : Highs} → Held set parts before → Adds set before v r
    → Held set (parts ++ high_parts set v) r
held_more {set} {parts} {v = v} h a =
    record {
      state_is =
          a.state_is ∙ ap (λ s. absorbed s (map (twos 8) (high_parts set v))) h.state_is
          ∙ absorbed_absorbed (fresh set.digit 6) (map (twos 8) parts) (map (twos 8) (high_parts set v))
          ∙ ap (absorbed (fresh set.digit 6)) (sym (map-append (twos 8) parts (high_parts set v)));
      fit_is = a.fit_is ∙ ap (λ b. b && every fits_byte (high_parts set v)) h.fit_is ∙ sym (every_append fits_byte parts (high_parts set v));
    }

pub hashes_long : {set : Numbers} {highs : Highs} {digest g c' : List ℕ} → Hashes set highs digest g c' → length c' ≡ seed_bytes
hashes_long h = ap length h.bytes ∙ length_squeezed seed_bytes _
