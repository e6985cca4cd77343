-- The steps of drawing from a sponge, a stretch at a time.
--     filled              the first bytes of a buffer, squeezed
--     squeezing_..        a loop over stretches: what stands in the output and what is still to come are together all
--     gathering_..        the same for positions with signs
-- Assumes nothing.
use mathlib.Core.Path.{◌≡◌, sym, ap, ◌∙◌}
use mathlib.Core.List.{List, [], ◌++◌, map, append-nil, append_assoc}
use Prim.Native.Nat.{ℕ, ◌+◌, ◌-◌, ◌*◌, ◌/◌, ◌%◌, ◌≤◌, ◌<◌}
use native.Mathlib.Nat.{mul-add, mul-mod_right, mul-div_right}
use native.Mathlib.Omega.{arith}
use lib.IntN.{ℤ}
use lib.ListN.{length, take, length-map}
use lib.Seq.{length-take-le}
use Rattle.shake.specs.declared.Sponge.{Sponge}
use Rattle.shake.specs.Sponge.{squeezed, after_squeeze}
use Rattle.shake.specs.Pieces.{squeezed_add, length_squeezed}
use Rattle.sampling.specs.Candidates.{candidates}
use Rattle.sampling.specs.CandidatesLaws.{candidates_length, candidates_append}
use Rattle.sampling.specs.Values.{values}
use Rattle.sampling.specs.ValuesLaws.{part_none, part_most, part_short, part_enough, values_part, values_append}
use Rattle.sampling.specs.Stretches.{part, part_positions}
use Rattle.sampling.specs.Stored.{Stored, stored_append, stored_length, stored_front, stored_whole, StoredDrawn, stored_drawn_append}
use Rattle.sampling.specs.Positions.{Drawn, positions, positions_of, signs_of, drawn_candidates, AreDrawn}
use Rattle.sampling.specs.PositionsLaws.{part_positions_none, part_positions_most, part_positions_enough, positions_part, positions_append, drawn_length, drawn_append}
use Rattle.sampling.proofs.ValueSteps.{Kept}

-- ---- the first n bytes of a buffer, squeezed

-- `bytes` are squeezed from s, which is r then
pub record Filled (n : ℕ) (bytes : List ℕ) (s r : Sponge) : Type 0 where
  pub state : r ≡ after_squeeze n s
  pub is : bytes ≡ squeezed n s

pub filled : (n : ℕ) (buffer : List ℕ) (s : Sponge) {bytes : List ℕ} {r : Sponge} → n ≤ length buffer → r ≡ after_squeeze (length (take n buffer)) s
    → bytes ≡ squeezed (length (take n buffer)) s → Filled n bytes s r
filled n buffer s room e f =
    record { state = rw (length-take-le n buffer room) at e; is = rw (length-take-le n buffer room) at f }

-- ---- the candidates that a sponge gives

squeezed_many : (size bits m : ℕ) (s : Sponge) → 0 < size → length (candidates size bits (squeezed (size * m) s)) ≡ m
squeezed_many size bits m s h =
    candidates_length size bits (squeezed (size * m) s) ∙ ap (λ (n : ℕ). n / size) (length_squeezed (size * m) s) ∙ mul-div_right m h

squeezed_candidates : (size bits k left : ℕ) (s : Sponge) → 0 < size
    → candidates size bits (squeezed (size * (k + left)) s)
    ≡ candidates size bits (squeezed (size * k) s) ++ candidates size bits (squeezed (size * left) (after_squeeze (size * k) s))
squeezed_candidates size bits k left s h =
    rw (mul-add size k left, squeezed_add (size * k) (size * left) s)
    (candidates_append size bits (squeezed (size * k) s) (squeezed (size * left) (after_squeeze (size * k) s)) h whole)
  where
    whole : length (squeezed (size * k) s) % size ≡ 0
    whole = rw (length_squeezed (size * k) s) (mul-mod_right size k)

-- the values of the candidates to come are those of the next k, then those of the others
values_squeezed : (range need size bits k left : ℕ) (s : Sponge) → 0 < size
    → let new = part range need left (candidates size bits (squeezed (size * k) s)) in
    values range need (candidates size bits (squeezed (size * (k + left)) s))
    ≡ new ++ values range (need - length new) (candidates size bits (squeezed (size * left) (after_squeeze (size * k) s)))
values_squeezed range need size bits k left s h =
    ap (values range need) (squeezed_candidates size bits k left s h)
    ∙ values_append range need (candidates size bits (squeezed (size * k) s)) (candidates size bits (squeezed (size * left) (after_squeeze (size * k) s)))
    ∙ ap
    (λ (m : ℕ). part range need m (candidates size bits (squeezed (size * k) s))
    ++ values range (need - length (part range need m (candidates size bits (squeezed (size * k) s)))) (candidates size bits (squeezed (size * left) (after_squeeze (size * k) s))))
    (squeezed_many size bits left (after_squeeze (size * k) s) h)

-- none is needed
values_none : (range : ℕ) (cs : List ℕ) → values range 0 cs ≡ []
values_none range cs = values_part range 0 cs ∙ part_none range 0 cs

-- ---- a loop over stretches

-- What stands in the output before `at`, and what the `left` candidates to come give of the `need` values needed, are together all. At first
-- `most` candidates are to come and `total` values are needed.
pub record Squeezing {A : Type 0} (g : List ℕ → List A) (size bits range : ℕ) (all old : List A) (most total : ℕ) (out : List A) (sponge : Sponge)
    (left need at : ℕ) : Type 0 where
  pub kept : Kept g
  pub some : 0 < size
  pub done : List A
  pub stored : Stored done old 0 out at
  pub rest : done ++ g (values range need (candidates size bits (squeezed (size * left) sponge))) ≡ all
  pub enough : need ≤ left
  pub few : left ≤ most
  pub still : at + need ≡ total
  pub within : at ≤ length old
  pub long : length out ≡ length old

module _ {A : Type 0} {g : List ℕ → List A} {size bits range : ℕ} where
  module _ {all old out : List A} {most total : ℕ} {sponge : Sponge} {left need at : ℕ}
      (d : Squeezing g size bits range all old most total out sponge left need at) where
    -- the next k candidates, of which no more are taken than are needed, nor than there are
    module _ (k m : ℕ) {bytes : List ℕ} {after : Sponge} {last : List A} {next : ℕ} (f : Filled (size * k) bytes sponge after) (e : m ≡ need) (h : k ≤ left)
        (s : Stored (g (part range m (left - k) (candidates size bits bytes))) out at last next) where
      abbrev cs : List ℕ
      cs = candidates size bits (squeezed (size * k) sponge)

      abbrev new : List ℕ
      new = part range need (left - k) cs

      taken : Stored (g new) out at last next
      taken = rw (f.is, e) at s

      next_is : next ≡ at + length new
      next_is = taken.next_is ∙ ap (λ (n : ℕ). at + n) (d.kept.long new)

      pub squeezing_most : (next ≤ at + need) × (next ≤ at + k)
      squeezing_most =
          omega (arith, next_is, part_most range need (left - k) cs, part_short range need (left - k) cs, squeezed_many size bits k sponge d.some)

      pub squeezing_more : {fewer : ℕ} → at + need ≡ next + fewer → next ≤ length old
          → Squeezing g size bits range all old most total last after (left - k) fewer next
      squeezing_more {fewer} c l =
          record {
            kept = d.kept;
            some = d.some;
            done = d.done ++ g new;
            stored = stored_append d.stored taken;
            rest =
                append_assoc d.done (g new) (g (values range fewer (candidates size bits (squeezed (size * (left - k)) after))))
                ∙ ap (λ (l : List A). d.done ++ l) (sym (d.kept.append new (values range fewer (candidates size bits (squeezed (size * (left - k)) after)))))
                ∙ ap (λ (l : List ℕ). d.done ++ g l) (rw (f.state, ← fewer_is) (sym (values_squeezed range need size bits k (left - k) sponge d.some)))
                ∙ ap (λ (n : ℕ). d.done ++ g (values range need (candidates size bits (squeezed (size * n) sponge)))) whole
                ∙ d.rest;
            enough =
                omega (arith, fewer_is, part_enough range need (left - k) cs (omega (arith, squeezed_many size bits k sponge d.some, d.enough)));
            few = omega (arith, d.few);
            still = omega (arith, d.still);
            within = l;
            long = stored_length taken ∙ d.long;
          }
        where
          whole : k + (left - k) ≡ left
          whole = omega arith

          fewer_is : need - length new ≡ fewer
          fewer_is = omega (arith, next_is, part_most range need (left - k) cs)

    -- the output is full
    pub squeezing_full : length old ≤ at → out ++ g (values range need (candidates size bits (squeezed (size * left) sponge))) ≡ all
    squeezing_full h = ap (λ (l : List A). l ++ g (values range need (candidates size bits (squeezed (size * left) sponge)))) whole ∙ d.rest
      where
        whole : out ≡ d.done
        whole = stored_whole d.stored (omega (arith, d.stored.next_is, d.within))

    -- and nothing more is needed
    pub squeezing_all : length old ≤ at → total ≡ length old → out ≡ all
    squeezing_all h e =
        sym (append-nil out) ∙ ap (λ (l : List A). out ++ l) (sym (ap g (ap (λ (m : ℕ). values range m cs) none ∙ values_none range cs) ∙ d.kept.none))
        ∙ squeezing_full h
      where
        cs : List ℕ
        cs = candidates size bits (squeezed (size * left) sponge)

        none : need ≡ 0
        none = omega (arith, d.still, d.within)

-- ---- positions with signs

drawn_many : (bits m : ℕ) (s : Sponge) → length (drawn_candidates bits (squeezed (3 * m) s)) ≡ m
drawn_many bits m s =
    drawn_length bits (squeezed (3 * m) s) ∙ ap (λ (n : ℕ). n / 3) (length_squeezed (3 * m) s) ∙ mul-div_right m (omega arith)

positions_squeezed : (n need bits k left : ℕ) (ps : List ℕ) (s : Sponge)
    → let new = part_positions n need left ps (drawn_candidates bits (squeezed (3 * k) s)) in
    positions n need ps (drawn_candidates bits (squeezed (3 * (k + left)) s))
    ≡ new ++ positions n (need - length new) (ps ++ positions_of new) (drawn_candidates bits (squeezed (3 * left) (after_squeeze (3 * k) s)))
positions_squeezed n need bits k left ps s =
    ap (positions n need ps) split
    ∙ positions_append n need ps cs ds
    ∙ ap
    (λ (m : ℕ). part_positions n need m ps cs
    ++ positions n (need - length (part_positions n need m ps cs)) (ps ++ positions_of (part_positions n need m ps cs)) ds)
    (drawn_many bits left (after_squeeze (3 * k) s))
  where
    cs : List Drawn
    cs = drawn_candidates bits (squeezed (3 * k) s)

    ds : List Drawn
    ds = drawn_candidates bits (squeezed (3 * left) (after_squeeze (3 * k) s))

    whole : length (squeezed (3 * k) s) % 3 ≡ 0
    whole = rw (length_squeezed (3 * k) s) (mul-mod_right 3 k)

    split : drawn_candidates bits (squeezed (3 * (k + left)) s) ≡ cs ++ ds
    split =
        rw (mul-add 3 k left, squeezed_add (3 * k) (3 * left) s)
        (drawn_append bits (squeezed (3 * k) s) (squeezed (3 * left) (after_squeeze (3 * k) s)) whole)

positions_none : (n : ℕ) (ps : List ℕ) (cs : List Drawn) → positions n 0 ps cs ≡ []
positions_none n ps cs = positions_part n 0 ps cs ∙ part_positions_none n 0 ps cs

-- what stands in the outputs before `at`, and what the `left` candidates to come give, are together all
pub record Gathering (n bits : ℕ) (all : List Drawn) (places : List ℕ) (signs : List ℤ) (out : List ℕ) (marks : List ℤ) (sponge : Sponge) (left at : ℕ) : Type 0 where
  pub done : List Drawn
  pub stored : StoredDrawn done places signs 0 out marks at
  pub rest : done ++ positions n (length places - at) (take at out) (drawn_candidates bits (squeezed (3 * left) sponge)) ≡ all
  pub enough : length places - at ≤ left
  pub few : left ≤ 256
  pub within : at ≤ length places
  pub long : length out ≡ length places
  pub marked : length marks ≡ length signs

module _ {n bits : ℕ} where
  module _ {all : List Drawn} {places : List ℕ} {signs : List ℤ} {out : List ℕ} {marks : List ℤ} {sponge : Sponge} {left at : ℕ}
      (d : Gathering n bits all places signs out marks sponge left at) where
    module _ (k : ℕ) {bytes : List ℕ} {after : Sponge} (f : Filled (3 * k) bytes sponge after) (h : k ≤ left) where
      -- the next k candidates
      pub gathering_more : {last : List ℕ} {ends : List ℤ} {next : ℕ}
          → StoredDrawn (part_positions n (length out - at) (left - k) (take at out) (drawn_candidates bits bytes)) out marks at last ends next
          → Gathering n bits all places signs last ends after (left - k) next
      gathering_more {last} {ends} {next} t =
          record {
            done = d.done ++ new;
            stored = stored_drawn_append d.stored s;
            rest =
                append_assoc d.done new (positions n (length places - next) (take next last) (drawn_candidates bits (squeezed (3 * (left - k)) after)))
                ∙ ap (λ (l : List Drawn). d.done ++ l) (rw (f.state, still, stored_front s.places near) (sym (positions_squeezed n (length out - at) bits k (left - k) (take at out) sponge)))
                ∙ joined;
            enough = omega (arith, still, part_positions_enough n (length out - at) (left - k) (take at out) cs (omega (arith, drawn_many bits k sponge, d.enough, d.long)));
            few = omega (arith, d.few);
            within = omega (arith, near, d.long);
            long = stored_length s.places ∙ d.long;
            marked = stored_length s.marks ∙ d.marked;
          }
        where
          cs : List Drawn
          cs = drawn_candidates bits (squeezed (3 * k) sponge)

          new : List Drawn
          new = part_positions n (length out - at) (left - k) (take at out) cs

          s : StoredDrawn new out marks at last ends next
          s = rw f.is at t

          whole : k + (left - k) ≡ left
          whole = omega arith

          joined : d.done ++ positions n (length out - at) (take at out) (drawn_candidates bits (squeezed (3 * (k + (left - k))) sponge)) ≡ all
          joined = rw (d.long, whole) d.rest

          most : length new ≤ length out - at
          most = part_positions_most n (length out - at) (left - k) (take at out) cs

          next_is : next ≡ at + length new
          next_is = s.places.next_is ∙ ap (λ (m : ℕ). at + m) (length-map new (λ (t : Drawn). t.position))

          near : next ≤ length out
          near = omega (arith, next_is, most, d.within, d.long)

          still : length places - next ≡ length out - at - length new
          still = omega (arith, next_is, most, d.long)

    -- the outputs are full
    pub gathering_all : length places ≤ at → length signs ≡ length places → AreDrawn all out marks
    gathering_all h e =
        record {
          places_are = stored_whole d.stored.places (long (λ (t : Drawn). t.position)) ∙ ap positions_of whole;
          signs_are = stored_whole d.stored.marks (long (λ (t : Drawn). t.sign) ∙ sym e) ∙ ap signs_of whole;
        }
      where
        long : {B : Type 0} (f : Drawn → B) → length (map f d.done) ≡ length places
        long f = length-map d.done f ∙ omega (arith, d.stored.places.next_is, length-map d.done (λ (t : Drawn). t.position), d.within)

        nothing : length places - at ≡ 0
        nothing = omega arith

        whole : d.done ≡ all
        whole =
            sym (append-nil d.done)
            ∙ ap (λ (l : List Drawn). d.done ++ l)
            (sym (ap (λ (m : ℕ). positions n m (take at out) (drawn_candidates bits (squeezed (3 * left) sponge))) nothing ∙ positions_none n (take at out) (drawn_candidates bits (squeezed (3 * left) sponge))))
            ∙ d.rest
