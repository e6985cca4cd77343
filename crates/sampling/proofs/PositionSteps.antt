-- The steps of taking positions: the sign of a candidate, a search among positions, the next free one, what becomes of one candidate,
-- one candidate more of a stretch, and where the loop ends.
-- Assumes nothing.
use mathlib.Core.Path.{◌≡◌, refl, sym, ap, ap₂, ◌∙◌}
use mathlib.Core.Logic.{⊎_elim}
use mathlib.Core.Bool.{Bool, true, false, ◌||◌}
use lib.Dec.{eqb}
use mathlib.Core.List.{List, [], ◌∷◌, ◌++◌, append-nil}
use Prim.Native.Nat.{ℕ, zero, suc, ◌+◌, ◌-◌, ◌*◌, ◌/◌, ◌%◌, ◌^◌, ◌≤◌, ◌<◌}
use native.Mathlib.Nat.{zero-add, mod_self, mod-lt, mod-eq_of_lt}
use native.Mathlib.Numerals.{add-one}
use native.Mathlib.Omega.{arith}
use lib.IntN.{ℤ}
use lib.ListN.{length, get_or, take, drop, set, take-append-drop, length-drop, length-map}
use lib.Seq.{take-suc, take_all}
use Rattle.std.specs.List.{list_any}
use Rattle.std.proofs.lemmas.List.Folds.{list_any-append}
use Rattle.std.proofs.lemmas.Cmp.{nat_eq_equiv}
use Rattle.whole.specs.Int.{lt_or_le, less_one}
use Rattle.whole.specs.Below.{Below}
use Rattle.whole.specs.BelowLaws.{below_part}
use Rattle.whole.specs.Parts.{part_length}
use Rattle.packing.specs.Digits.{value}
use Rattle.sampling.specs.Candidates.{held, piece}
use Rattle.sampling.specs.Positions.{Drawn, is_in, free, sign_of, positions_of, drawn_candidates}
use Rattle.sampling.specs.Promises.{Upward}
use Rattle.sampling.specs.FreeLaws.{free_here}
use Rattle.sampling.specs.Stored.{StoredDrawn, stored_length, stored_front, stored_drawn_none, stored_drawn_one, stored_drawn_append}
use Rattle.sampling.specs.PositionsLaws.{part_positions_none, part_positions_fresh, part_positions_repeated, part_positions_moved, part_positions_most, part_positions_append, drawn_length, drawn_at}
use Rattle.sampling.specs.Stretches.{drawn_as, part_positions, placed}

-- ---- the sign

-- of three bytes the third alone
third : (bytes : List ℕ) → length bytes ≡ 3 → Below 256 bytes → get_or bytes 2 0 ≡ value 8 bytes / 65536
unfolding value
third [] l b = absurd (omega arith)
third (x ∷ []) l b = absurd (omega arith)
third (x ∷ y ∷ []) l b = absurd (omega arith)
third (x ∷ y ∷ z ∷ []) l b = omega (arith, b.at 0 (omega arith), b.at 1 (omega arith))
third (x ∷ y ∷ z ∷ u ∷ us) l b = absurd (omega arith)

-- gives it
pub sign_is : (s : ℤ) {bytes : List ℕ} (j : ℕ) (stretch : List ℕ) → bytes ≡ take 3 (drop (3 * j) stretch) → j < held 3 stretch → Below 256 stretch
    → s ≡ sign_of (get_or bytes 2 0) → s ≡ sign_of (piece 3 stretch j / 65536)
sign_is s j stretch f h b e =
    rw f at e ∙ ap sign_of (third (take 3 (drop (3 * j) stretch)) (part_length (3 * j) 3 stretch (omega arith)) (below_part 256 (3 * j) 3 stretch b))

-- ---- among positions

-- what `contains` answers
pub contained : {taken : Bool} (p : ℕ) (ps : List ℕ) → taken ≡ list_any (λ y. eqb y p) ps → taken ≡ is_in p ps
unfolding is_in
contained p ps e = e ∙ go ps
  where
    go : (qs : List ℕ) → list_any (λ y. eqb y p) qs ≡ is_in p qs
    go [] = refl
    go (q ∷ qs) = ap₂ ◌||◌ (nat_eq_equiv.symm q p) (go qs)

-- what is found in one of two parts is among them
pub in_parts : {first last : Bool} (p m : ℕ) (ps : List ℕ) → first ≡ is_in p (take m ps) → last ≡ is_in p (drop m ps) → (first || last) ≡ is_in p ps
in_parts p m ps e f =
    ap₂ ◌||◌ (e ∙ sym (contained p (take m ps) refl)) (f ∙ sym (contained p (drop m ps) refl))
    ∙ sym (list_any-append (λ y. eqb y p) (take m ps) (drop m ps))
    ∙ ap (list_any (λ y. eqb y p)) (take-append-drop m ps)
    ∙ contained p ps refl

-- ---- the next free position

-- after i steps: the next free position from `at` on, with the steps left, is the one from p on
pub record Freeing (n p : ℕ) (ps : List ℕ) (at i : ℕ) : Type 0 where
  pub inside : at < n
  pub same : free n (n - i) at ps ≡ free n n p ps

up : {n p r : ℕ} → p < n → Upward n p r → r ≡ (p + 1) % n
up {n} {p} {r} h u = ⊎_elim (λ l. u.one l ∙ sym (mod-eq_of_lt l)) (λ l. u.around (top l) ∙ sym (rw (top l) (mod_self n))) (lt_or_le (p + 1) n)
  where
    top : n ≤ p + 1 → p + 1 ≡ n
    top l = omega arith

free_on : (n steps p : ℕ) (ps : List ℕ) → 0 < steps → is_in p ps ≡ true → free n steps p ps ≡ free n (steps - 1) ((p + 1) % n) ps
unfolding free
free_on n zero p ps h e = absurd (omega arith)
free_on n (suc steps) p ps h e = rw (e, less_one steps)

free_none : (n steps p : ℕ) (ps : List ℕ) → steps ≤ 0 → free n steps p ps ≡ p
unfolding free
free_none n zero p ps h = refl
free_none n (suc steps) p ps h = absurd (omega arith)

module _ {n p : ℕ} {ps : List ℕ} {at i : ℕ} (f : Freeing n p ps at i) where
  pub freeing_on : {r : ℕ} → is_in at ps ≡ true → i < n → Upward n at r → Freeing n p ps r (i + 1)
  freeing_on e h u =
      record {
        inside = rw (up f.inside u) (mod-lt (at + 1) (omega (arith, f.inside)));
        same = rw (up f.inside u, fewer) (sym (free_on n (n - i) at ps (omega arith) e) ∙ f.same);
      }
    where
      fewer : n - (i + 1) ≡ n - i - 1
      fewer = omega arith

  pub freeing_here : is_in at ps ≡ false → at ≡ free n n p ps
  freeing_here e = sym (free_here n (n - i) at ps e) ∙ f.same

  pub freeing_out : n ≤ i → at ≡ free n n p ps
  freeing_out h = sym (free_none n (n - i) at ps (omega arith)) ∙ f.same

-- ---- one candidate, with `left` after it

pub one_fresh : (n need left : ℕ) (ps : List ℕ) (c : Drawn) → 0 < need → is_in c.position ps ≡ false → part_positions n need left ps (c ∷ []) ≡ c ∷ []
unfolding part_positions
one_fresh n zero left ps c h e = absurd (omega arith)
one_fresh n (suc need) left ps c h e = part_positions_fresh n need left ps c [] e

pub one_moved : (n need left : ℕ) (ps : List ℕ) (c : Drawn) → 0 < need → is_in c.position ps ≡ true → left < need
    → part_positions n need left ps (c ∷ []) ≡ placed n ps c ∷ []
unfolding part_positions
one_moved n zero left ps c h e l = absurd (omega arith)
one_moved n (suc need) left ps c h e l = part_positions_moved n need left ps c [] e (rw (zero-add left) l)

pub one_repeated : (n need left : ℕ) (ps : List ℕ) (c : Drawn) → 0 < need → is_in c.position ps ≡ true → need ≤ left
    → part_positions n need left ps (c ∷ []) ≡ []
unfolding part_positions
one_repeated n zero left ps c h e l = absurd (omega arith)
one_repeated n (suc need) left ps c h e l = part_positions_repeated n need left ps c [] e (rw (zero-add left) l)

-- ---- a stretch

module _ (n need later : ℕ) (ps : List ℕ) (cs : List Drawn) where
  -- the first j candidates, with the others and `later` more after them
  pub first_positions : ℕ → List Drawn
  first_positions j = part_positions n need (length cs - j + later) ps (take j cs)

  first_positions_none : first_positions 0 ≡ []
  unfolding part_positions first_positions
  first_positions_none = refl

  first_positions_most : (j : ℕ) → length (first_positions j) ≤ need
  unfolding first_positions
  first_positions_most j = part_positions_most n need (length cs - j + later) ps (take j cs)

  -- candidate j after them, with `left` after it, where m are still needed and those of qs are taken
  first_positions_more : (j left m : ℕ) (c : Drawn) (qs : List ℕ) → j < length cs → c ≡ get_or cs j c → left ≡ length cs - (j + 1) + later
      → m + length (first_positions j) ≡ need → qs ≡ ps ++ positions_of (first_positions j)
      → first_positions (j + 1) ≡ first_positions j ++ part_positions n m left qs (c ∷ [])
  unfolding first_positions
  first_positions_more j left m c qs h e f k q =
      rw (← f, add-one j, take-suc cs j c h, ← e)
      (part_positions_append n need left ps (take j cs) (c ∷ [])
      ∙ rw (one_before, q) (ap (λ (i : ℕ). new ++ part_positions n i left (ps ++ positions_of new) (c ∷ [])) needed))
    where
      new : List Drawn
      new = part_positions n need (length cs - j + later) ps (take j cs)

      one_before : 1 + left ≡ length cs - j + later
      one_before = omega arith

      needed : need - length new ≡ m
      needed = omega arith

  -- every candidate
  first_positions_all : (j : ℕ) → length cs ≤ j → first_positions j ≡ part_positions n need later ps cs
  unfolding first_positions
  first_positions_all j h = rw (take_all j cs h) (ap (λ (k : ℕ). part_positions n need k ps cs) none)
    where
      none : length cs - j + later ≡ later
      none = omega arith

  -- nothing more is needed
  first_positions_full : (j : ℕ) → need ≤ length (first_positions j) → first_positions j ≡ part_positions n need later ps cs
  unfolding first_positions
  first_positions_full j e =
      sym
      (ap (part_positions n need later ps) (sym (take-append-drop j cs)) ∙ part_positions_append n need later ps (take j cs) (drop j cs)
      ∙ rw (length-drop j cs, needed, part_positions_none n later (ps ++ positions_of new) (drop j cs)) (append-nil new))
    where
      new : List Drawn
      new = part_positions n need (length cs - j + later) ps (take j cs)

      needed : need - length new ≡ 0
      needed = omega arith

-- ---- a loop over the candidates of a stretch

-- what is taken of the first j candidates of a stretch is stored, where as many are needed as there are places from `at` on, and `left`
-- candidates follow
pub record Drawing (n bits later : ℕ) (stretch positions : List ℕ) (signs : List ℤ) (at : ℕ) (out : List ℕ) (marks : List ℤ) (next left j : ℕ) : Type 0 where
  pub done : StoredDrawn (first_positions n (length positions - at) later (take at positions) (drawn_candidates bits stretch) j) positions signs at out marks next
  pub long : length out ≡ length positions
  pub marked : length marks ≡ length signs
  pub from : at ≤ length positions
  pub within : next ≤ length positions
  pub left_is : left + j ≡ held 3 stretch + later

-- what is stored, and its counts
drawing : (n bits later : ℕ) (stretch : List ℕ) {positions : List ℕ} {signs : List ℤ} {at : ℕ} {out : List ℕ} {marks : List ℤ} {next left j : ℕ} → at ≤ length positions
    → StoredDrawn (first_positions n (length positions - at) later (take at positions) (drawn_candidates bits stretch) j) positions signs at out marks next
    → left + j ≡ held 3 stretch + later → Drawing n bits later stretch positions signs at out marks next left j
drawing n bits later stretch {positions} {signs} {at} {out} {marks} {next} {left} {j} h s l =
    record {
      done = s;
      long = stored_length s.places;
      marked = stored_length s.marks;
      from = h;
      within = omega (arith, s.places.next_is, length-map new (λ (d : Drawn). d.position), first_positions_most n (length positions - at) later (take at positions) cs j);
      left_is = l;
    }
  where
    cs : List Drawn
    cs = drawn_candidates bits stretch

    new : List Drawn
    new = first_positions n (length positions - at) later (take at positions) cs j

module _ {n bits later at : ℕ} {stretch positions : List ℕ} {signs : List ℤ} where
  pub drawing_none : at ≤ length positions → Drawing n bits later stretch positions signs at positions signs at (held 3 stretch + later) 0
  drawing_none from =
      drawing n bits later stretch from
      (rw (first_positions_none n (length positions - at) later (take at positions) (drawn_candidates bits stretch)) (stored_drawn_none positions signs refl))
      (omega arith)

  module _ {out : List ℕ} {marks : List ℤ} {next left j : ℕ} (t : Drawing n bits later stretch positions signs at out marks next left j) where
    -- candidate j, of which `new` is taken
    module _ (inside : j < held 3 stretch) (p : ℕ) (s : ℤ) (e : p ≡ piece 3 stretch j % 2 ^ bits) (f : s ≡ sign_of (piece 3 stretch j / 65536)) where
      drawing_more : {last : List ℕ} {ends : List ℤ} {after : ℕ} {new : List Drawn}
          → part_positions n (length out - next) (left - 1) (take next out) (drawn_as p s ∷ []) ≡ new → StoredDrawn new out marks next last ends after
          → Drawing n bits later stretch positions signs at last ends after (left - 1) (j + 1)
      drawing_more {new = new} g stored =
          drawing n bits later stretch t.from
          (rw (more, g) (stored_drawn_append t.done stored))
          (omega (arith, t.left_is))
        where
          cs : List Drawn
          cs = drawn_candidates bits stretch

          before : List Drawn
          before = first_positions n (length positions - at) later (take at positions) cs j

          many : length cs ≡ held 3 stretch
          many = drawn_length bits stretch

          taken : next ≡ at + length before
          taken = t.done.places.next_is ∙ ap (λ (k : ℕ). at + k) (length-map before (λ (d : Drawn). d.position))

          more : first_positions n (length positions - at) later (take at positions) cs (j + 1)
              ≡ before ++ part_positions n (length out - next) (left - 1) (take next out) (drawn_as p s ∷ [])
          more =
              first_positions_more n (length positions - at) later (take at positions) cs j (left - 1) (length out - next) (drawn_as p s) (take next out) (rw many inside)
              (ap₂ drawn_as e f ∙ sym (drawn_at bits stretch j (drawn_as p s) inside)) (rw many (omega (arith, t.left_is))) (omega (arith, taken, t.within, t.long))
              (stored_front t.done.places t.within)

      -- which gets position q
      pub drawing_one : (q : ℕ) → part_positions n (length out - next) (left - 1) (take next out) (drawn_as p s ∷ []) ≡ drawn_as q s ∷ []
          → Drawing n bits later stretch positions signs at (set out next q) (set marks next s) (next + 1) (left - 1) (j + 1)
      drawing_one q g = drawing_more g (stored_drawn_one (drawn_as q s) refl refl refl)

      -- or is passed over
      pub drawing_passed : part_positions n (length out - next) (left - 1) (take next out) (drawn_as p s ∷ []) ≡ []
          → Drawing n bits later stretch positions signs at out marks next (left - 1) (j + 1)
      drawing_passed g = drawing_more g (stored_drawn_none out marks refl)

    pub drawing_all : held 3 stretch ≤ j
        → StoredDrawn (part_positions n (length positions - at) later (take at positions) (drawn_candidates bits stretch)) positions signs at out marks next
    drawing_all h =
        rw (← first_positions_all n (length positions - at) later (take at positions) (drawn_candidates bits stretch) j (rw (drawn_length bits stretch) h)) t.done

    pub drawing_full : length positions ≤ next
        → StoredDrawn (part_positions n (length positions - at) later (take at positions) (drawn_candidates bits stretch)) positions signs at out marks next
    drawing_full h =
        rw (← first_positions_full n (length positions - at) later (take at positions) cs j
        (omega (arith, t.done.places.next_is, length-map new (λ (d : Drawn). d.position))))
        t.done
      where
        cs : List Drawn
        cs = drawn_candidates bits stretch

        new : List Drawn
        new = first_positions n (length positions - at) later (take at positions) cs j
