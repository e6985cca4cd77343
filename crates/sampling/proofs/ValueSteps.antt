-- The steps of taking values: what becomes of one candidate, one candidate more of a stretch, and where the loop ends.
-- Assumes nothing.
use mathlib.Core.Path.{◌≡◌, refl, sym, ap, ◌∙◌}
use mathlib.Core.List.{List, [], ◌∷◌, ◌++◌, map, map-append, append-nil}
use Prim.Native.Nat.{ℕ, zero, suc, min, ◌+◌, ◌-◌, ◌%◌, ◌^◌, ◌≤◌, ◌<◌}
use native.Mathlib.Nat.{zero-add}
use native.Mathlib.Numerals.{add-one}
use native.Mathlib.Omega.{arith}
use lib.ListN.{length, get_or, take, drop, set, take-append-drop, length-drop, length-map, length-append, length-set}
use lib.Seq.{take-suc, take_all}
use Rattle.sampling.specs.Candidates.{held, piece, candidates}
use Rattle.sampling.specs.CandidatesLaws.{candidates_length, candidates_at}
use Rattle.sampling.specs.Stored.{Stored, stored_none, stored_one, stored_append}
use Rattle.sampling.specs.ValuesLaws.{part_none, part_in, part_skip, part_last, part_append}
use Rattle.sampling.specs.Stretches.{part}
use Rattle.sampling.specs.Values.{less_of}

-- ---- one candidate, with `left` after it

pub one_in : (range need left c : ℕ) → 0 < need → c < range → part range need left (c ∷ []) ≡ c ∷ []
unfolding part
one_in range zero left c h l = absurd (omega arith)
one_in range (suc need) left c h l = part_in range need left c [] l

pub one_last : (range need left c : ℕ) → 0 < need → range ≤ c → left < need → part range need left (c ∷ []) ≡ (c - range) ∷ []
unfolding part
one_last range zero left c h l m = absurd (omega arith)
one_last range (suc need) left c h l m = part_last range need left c [] l (rw (zero-add left) m)

pub one_skip : (range need left c : ℕ) → 0 < need → range ≤ c → need ≤ left → part range need left (c ∷ []) ≡ []
unfolding part
one_skip range zero left c h l m = absurd (omega arith)
one_skip range (suc need) left c h l m = part_skip range need left c [] l (rw (zero-add left) m)

-- ---- a stretch

module _ (range need later : ℕ) (cs : List ℕ) where
  -- the first j candidates, with the others and `later` more after them
  pub first : ℕ → List ℕ
  first j = part range need (length cs - j + later) (take j cs)

  pub first_none : first 0 ≡ []
  unfolding part first
  first_none = refl

  -- candidate j after them, with `left` after it, where m are still needed
  pub first_more : (j c left m : ℕ) → j < length cs → c ≡ get_or cs j 0 → left ≡ length cs - (j + 1) + later → m + length (first j) ≡ need
      → first (j + 1) ≡ first j ++ part range m left (c ∷ [])
  unfolding first
  first_more j c left m h e f k =
      rw (← f, add-one j, take-suc cs j 0 h, ← e)
      (part_append range need left (take j cs) (c ∷ [])
      ∙ rw one_before (ap (λ (i : ℕ). part range need (length cs - j + later) (take j cs) ++ part range i left (c ∷ [])) needed))
    where
      one_before : 1 + left ≡ length cs - j + later
      one_before = omega arith

      needed : need - length (part range need (length cs - j + later) (take j cs)) ≡ m
      needed = omega arith

  -- every candidate
  pub first_all : (j : ℕ) → length cs ≤ j → first j ≡ part range need later cs
  unfolding first
  first_all j h = rw (take_all j cs h) (ap (λ (k : ℕ). part range need k cs) none)
    where
      none : length cs - j + later ≡ later
      none = omega arith

  -- nothing more is needed
  pub first_full : (j : ℕ) → need ≤ length (first j) → first j ≡ part range need later cs
  unfolding first
  first_full j e =
      sym
      (ap (part range need later) (sym (take-append-drop j cs)) ∙ part_append range need later (take j cs) (drop j cs)
      ∙ rw (length-drop j cs, needed, part_none range later (drop j cs)) (append-nil (part range need (length cs - j + later) (take j cs))))
    where
      needed : need - length (part range need (length cs - j + later) (take j cs)) ≡ 0
      needed = omega arith

-- ---- a loop over the candidates of a stretch

-- what is stored of several values: the values themselves, or each less b
pub record Kept {A : Type 0} (g : List ℕ → List A) : Type 0 where
  pub none : g [] ≡ []
  pub append : (xs ys : List ℕ) → g (xs ++ ys) ≡ g xs ++ g ys
  pub long : (xs : List ℕ) → length (g xs) ≡ length xs

pub kept_values : Kept (λ (vs : List ℕ). vs)
kept_values = record { none = refl; append = λ xs ys. refl; long = λ xs. refl }

pub kept_less : (b : ℕ) → Kept (map (less_of b))
kept_less b = record { none = refl; append = λ xs ys. map-append (less_of b) xs ys; long = λ xs. length-map xs (less_of b) }

-- what is taken of the first j candidates of a stretch is stored, each value as g has it, for any g that `Is` holds of. `need` values are
-- needed of them and of the `later` ones: `still` of them are needed yet, and `left` candidates follow
pub record Taking {A : Type 0} (Is : (ℕ → A) → Type 0) (range need later size bits : ℕ) (stretch : List ℕ) (old : List A) (at : ℕ) (out : List A) (next still left j : ℕ) : Type 0 where
  pub done : (g : ℕ → A) → Is g → Stored (map g (first range need later (candidates size bits stretch) j)) old at out next
  pub long : length out ≡ length old
  pub next_is : next ≡ at + length (first range need later (candidates size bits stretch) j)
  pub still_is : still + length (first range need later (candidates size bits stretch) j) ≡ need
  pub left_is : left + j ≡ held size stretch + later
  pub room : next + min still (held size stretch - j) ≤ length old

module _ {A : Type 0} {Is : (ℕ → A) → Type 0} {range need later size bits at : ℕ} {stretch : List ℕ} {old : List A} where
  pub taking_none : {still : ℕ} → still ≡ need → at + min need (held size stretch) ≤ length old
      → Taking Is range need later size bits stretch old at old at still (held size stretch + later) 0
  taking_none e l =
      record {
        done = λ g k. rw none (stored_none old refl);
        long = refl;
        next_is = rw none (omega arith);
        still_is = rw none (omega arith);
        left_is = omega arith;
        room = omega arith;
      }
    where
      none : first range need later (candidates size bits stretch) 0 ≡ []
      none = first_none range need later (candidates size bits stretch)

  module _ {out : List A} {next still left j : ℕ} (t : Taking Is range need later size bits stretch old at out next still left j) (inside : j < held size stretch) where
    -- candidate j
    taking_more : {last : List A} {after fewer : ℕ} (c : ℕ) {new : List ℕ} → c ≡ piece size stretch j % 2 ^ bits → part range still (left - 1) (c ∷ []) ≡ new
        → ((g : ℕ → A) → Is g → Stored (map g new) out next last after) → length last ≡ length out
        → after ≡ next + length new → fewer + length new ≡ still → after + min fewer (held size stretch - (j + 1)) ≤ length old
        → Taking Is range need later size bits stretch old at last after fewer (left - 1) (j + 1)
    taking_more c {new} e f s l h k r =
        record {
          done = λ g is. rw (more, map-append g (first range need later cs j) new) (stored_append (t.done g is) (s g is));
          long = l ∙ t.long;
          next_is = rw (more, length-append (first range need later cs j) new) (omega (arith, t.next_is));
          still_is = rw (more, length-append (first range need later cs j) new) (omega (arith, t.still_is));
          left_is = omega (arith, t.left_is);
          room = r;
        }
      where
        cs : List ℕ
        cs = candidates size bits stretch

        many : length cs ≡ held size stretch
        many = candidates_length size bits stretch

        more : first range need later cs (j + 1) ≡ first range need later cs j ++ new
        more =
            first_more range need later cs j c (left - 1) still (rw many inside) (e ∙ sym (candidates_at size bits stretch j inside))
            (rw many (omega (arith, t.left_is))) t.still_is
            ∙ ap (λ (l : List ℕ). first range need later cs j ++ l) f

    -- which is taken as v, and kept as x
    pub taking_one : {fewer : ℕ} (c v : ℕ) (x : A) → c ≡ piece size stretch j % 2 ^ bits → part range still (left - 1) (c ∷ []) ≡ v ∷ []
        → ((g : ℕ → A) → Is g → x ≡ g v) → fewer + 1 ≡ still
        → Taking Is range need later size bits stretch old at (set out next x) (next + 1) fewer (left - 1) (j + 1)
    taking_one c v x e f s k = taking_more c e f (λ g is. stored_one (s g is) refl) (length-set out next x) refl k (omega (arith, t.room))

    -- or passed over
    pub taking_passed : (c : ℕ) → c ≡ piece size stretch j % 2 ^ bits → part range still (left - 1) (c ∷ []) ≡ []
        → Taking Is range need later size bits stretch old at out next still (left - 1) (j + 1)
    taking_passed c e f = taking_more c e f (λ g is. stored_none out refl) refl (omega arith) (omega arith) (omega (arith, t.room))

  module _ {out : List A} {next still left j : ℕ} (t : Taking Is range need later size bits stretch old at out next still left j) (g : ℕ → A) (is : Is g) where
    pub taking_all : held size stretch ≤ j → Stored (map g (part range need later (candidates size bits stretch))) old at out next
    taking_all h =
        rw (← first_all range need later (candidates size bits stretch) j (rw (candidates_length size bits stretch) h)) (t.done g is)

    pub taking_full : still ≡ 0 → Stored (map g (part range need later (candidates size bits stretch))) old at out next
    taking_full h = rw (← first_full range need later (candidates size bits stretch) j (omega (arith, t.still_is))) (t.done g is)
