-- k polynomials of n coefficients in a row, one by one: `xs.chunks_exact(n)`.
--     n_some                there is a coefficient, as chunks of n ask
--     yields_polynomials    its items are polynomial 0, .., polynomial k − 1
--     yields_lent           and those of `xs.chunks_exact_mut(n)`, as they are lent
-- A `for` over it, or over its `.enumerate()`, which has yielded ys:
--     comes, comes_numbered    x is next, polynomial i for i the length of ys
--     ends, ends_numbered      nothing is next: all k came
-- Assumes nothing.
use Rattle.std.specs.Prelude.{◌≡◌, List, [], ◌∷◌, ◌++◌, ℕ, ◌+◌, ◌*◌, ◌/◌, ◌<◌, Option, Some, None, get_or, length, take, drop}
use Rattle.std.specs.Borrow.{Bor, MutBor}
use Rattle.std.specs.List.{enumerate_from, zip}
use Rattle.std.proofs.lemmas.Slice.Zip.{get_or-zip, length-zip}
use Rattle.std.specs.declared.iter.Enumerate.{Enumerate}
use Rattle.std.specs.declared.iter.Zip.{Zip}
use Rattle.std.specs.declared.slice.ChunksExact.{ChunksExact}
use Rattle.std.specs.declared.slice.ChunksExactMut.{ChunksExactMut}
use Rattle.std.specs.Iterator.{Yields}
use Rattle.std.specs.Iterator.Adapters.{enumerate_source, enumerate_count, enumerate_steps, zip_first, zip_second, zip_steps}
use Rattle.std.specs.Slice.Iter.{chunks_exact_rest, chunks_exact_size, chunks_exact_steps, chunks_exact_mut_rest, chunks_exact_mut_size, chunks_exact_mut_steps}
use Rattle.std.proofs.Common.{refl, subst, ap, ap₂, ◌∙◌, add_comm, zero-add, mul-suc, mul-zero, arith, pow_pos, length-append, take_at}
use Rattle.std.proofs.Math.Nat.{add-div_left, div-eq_of_lt, mul-div_cancel}
use Rattle.std.proofs.Math.Seq.{drop-append-add}
use Rattle.std.proofs.lemmas.Iterator.{YieldsList, YieldsList-from_zip}
use Rattle.std.proofs.lemmas.Iterator.Consumers.{YieldsList-turn, YieldsList-end, YieldsList-from_enumerate}
use Rattle.std.proofs.lemmas.Iterator.Splits.{YieldsList-from_shown_while}
use Rattle.std.proofs.lemmas.List.FromFn.{get_or-enumerate_from, length-enumerate_from}
use Rattle.whole.specs.Table.{row, table}
use Rattle.whole.specs.TableLaws.{table_split, table_ext, length_table, get_or_table}
use Rattle.sets.specs.declared.Numbers.{Numbers}
use Rattle.sets.specs.Good.{Good}
use Rattle.records.specs.Layout.{polynomial}

pub n_some : {s : Numbers} → Good s → 0 < s.n
n_some {s} good = rw good.n_power (pow_pos s.position_bits)

-- polynomial i, x, comes after m polynomials, and then `next` came
pub record Comes (s : Numbers) (xs : List ℕ) (m next i : ℕ) (x : List ℕ) : Type 0 where
  pub at : i ≡ m
  pub counted : next ≡ i + 1
  pub inside : i < s.k
  pub is : x ≡ polynomial s.n i xs

first_shown : (n : ℕ) {x zs : List ℕ} (ys : List ℕ) → 0 < n → zs ≡ x ++ ys → length x ≡ n
    → table (length zs / n) (λ i. polynomial n i zs) ≡ x ∷ table (length ys / n) (λ i. polynomial n i ys)
unfolding row
first_shown n {x} {zs} ys some e f =
    rw count (table_split 1 (length ys / n) (λ i. polynomial n i zs) ∙ ap₂ ◌∷◌ first (table_ext (length ys / n) _ _ (λ j l. behind j)))
  where
    count : length zs / n ≡ 1 + length ys / n
    count = ap (λ m. m / n) (omega (arith, ap length e, length-append x ys)) ∙ add-div_left (length ys) some ∙ add_comm (length ys / n) 1

    first : polynomial n 0 zs ≡ x
    first = rw (mul-zero, e) (take_at x ys n f)

    behind : (j : ℕ) → polynomial n (1 + j) zs ≡ polynomial n j ys
    behind j = ap (take n) (rw (e, ← f) (ap (λ m. drop m (x ++ ys)) (omega (arith, mul-suc (length x) j)) ∙ drop-append-add x ys (length x * j)))

abbrev pub polynomials : Numbers → List ℕ → List (List ℕ)
polynomials s xs = table s.k (λ i. polynomial s.n i xs)

-- an iterator whose items are cut off the front of what `rest` shows, `size` elements at a time
module _ {S A : Type 0} (steps : S → Option A → S → Type 0) (v : A → List ℕ) (size : S → ℕ) (rest : S → List ℕ)
    (none : (u w : S) → steps u None w → length (rest u) < size u)
    (some : (u w : S) (x : A) → steps u (Some x) w → (size w ≡ size u) × (rest u ≡ v x ++ rest w) × (length (v x) ≡ size u)) where
  shown : S → List (List ℕ)
  shown it = table (length (rest it) / size it) (λ i. polynomial (size it) i (rest it))

  cuts : {s : Numbers} (good : Good s) (xs : List ℕ) → length xs ≡ s.k * s.n → (it : S) → size it ≡ s.n → rest it ≡ xs
      → YieldsList steps v it (polynomials s xs)
  unfolding shown
  cuts {s} good xs long it e f =
      subst (YieldsList steps v it) all
      (YieldsList-from_shown_while steps v shown (λ u. 0 < size u) (λ u w p g. length_table _ _ ∙ div-eq_of_lt (none u w g))
      (λ u x w p g. let h = some u w x g in (rw h.0 p, rw h.0 (first_shown (size u) _ p h.1 h.2))) it (rw e (n_some good)))
    where
      all : shown it ≡ polynomials s xs
      all = rw (e, f, long, mul-div_cancel s.k (n_some good)) refl

module _ {s : Numbers} (good : Good s) (xs : List ℕ) (long : length xs ≡ s.k * s.n) where
  pub yields_lent : (it : ChunksExactMut ℕ) → chunks_exact_mut_size it ≡ s.n → chunks_exact_mut_rest it ≡ xs
      → YieldsList chunks_exact_mut_steps (λ y. y.now) it (polynomials s xs)
  yields_lent =
      cuts chunks_exact_mut_steps (λ y. y.now) chunks_exact_mut_size chunks_exact_mut_rest (λ u w g. g.1.0) (λ u w x g. (g.0, g.1.0, g.1.1)) good xs long

  module _ (it : ChunksExact ℕ) (size : chunks_exact_size it ≡ s.n) (rest : chunks_exact_rest it ≡ xs) where
    pub yields_polynomials : YieldsList chunks_exact_steps (λ y. y.now) it (polynomials s xs)
    yields_polynomials =
        cuts chunks_exact_steps (λ y. y.now) chunks_exact_size chunks_exact_rest (λ u w g. g.1.0) (λ u w x g. (g.0, g.1.0, g.1.1)) good xs long it size rest

    module _ (ys : List (Bor (List ℕ))) (t : ChunksExact ℕ) (y : Yields chunks_exact_steps it ys t) {r : Option (Bor (List ℕ))} (u : ChunksExact ℕ) where
      pub comes : (x : Bor (List ℕ)) → r ≡ Some x → chunks_exact_steps t r u → Comes s xs (length ys) (length (ys ++ (x ∷ []))) (length ys) x.now
      comes x e g =
          let h = YieldsList-turn yields_polynomials ys t y r u x e g in
          let l : length ys < s.k = rw length_table at h.0 in
          record { at = refl; counted = length-append ys (x ∷ []); inside = l; is = h.1 ∙ get_or_table s.k (length ys) _ x.now l }

      pub ends : r ≡ None → chunks_exact_steps t r u → length ys ≡ s.k
      ends e g = (YieldsList-end yields_polynomials ys t y r u e g).1 ∙ length_table s.k _

  module _ (it : Enumerate (ChunksExact ℕ)) (size : chunks_exact_size (enumerate_source it) ≡ s.n) (rest : chunks_exact_rest (enumerate_source it) ≡ xs)
      (none : enumerate_count it ≡ 0) where
    road : YieldsList (enumerate_steps chunks_exact_steps) (λ p. (p.0, p.1.now)) it (enumerate_from 0 (polynomials s xs))
    road = YieldsList-from_enumerate (yields_polynomials (enumerate_source it) size rest) none

    many : length (enumerate_from 0 (polynomials s xs)) ≡ s.k
    many = length-enumerate_from 0 (polynomials s xs) ∙ length_table s.k _

    module _ (ys : List (ℕ × Bor (List ℕ))) (t : Enumerate (ChunksExact ℕ)) (y : Yields (enumerate_steps chunks_exact_steps) it ys t)
        {r : Option (ℕ × Bor (List ℕ))} (u : Enumerate (ChunksExact ℕ)) where
      pub comes_numbered : (i : ℕ) (x : Bor (List ℕ)) → r ≡ Some (i, x) → enumerate_steps chunks_exact_steps t r u
          → Comes s xs (length ys) (length (ys ++ ((i, x) ∷ []))) i x.now
      comes_numbered i x e g =
          let h = YieldsList-turn road ys t y r u (i, x) e g in
          let l : length ys < s.k = rw many at h.0 in
          let p : (i, x.now) ≡ (0 + length ys, get_or (polynomials s xs) (length ys) x.now) = h.1 ∙ get_or-enumerate_from 0 (polynomials s xs) (length ys) _ (rw (length_table s.k _) l) in
          let at : i ≡ length ys = ap (λ q. q.0) p ∙ zero-add (length ys) in
          record {
            at = at;
            counted = length-append ys ((i, x) ∷ []) ∙ rw at refl;
            inside = rw at l;
            is = rw at (ap (λ q. q.1) p ∙ get_or_table s.k (length ys) _ x.now l);
          }

      pub ends_numbered : r ≡ None → enumerate_steps chunks_exact_steps t r u → length ys ≡ s.k
      ends_numbered e g = (YieldsList-end road ys t y r u e g).1 ∙ many

-- beside those of a row that is written
module _ {s : Numbers} (good : Good s) (xs zs : List ℕ) (long : length xs ≡ s.k * s.n) (lent_long : length zs ≡ s.k * s.n)
    (it : Zip (ChunksExact ℕ) (ChunksExactMut ℕ))
    (size : chunks_exact_size (zip_first it) ≡ s.n) (rest : chunks_exact_rest (zip_first it) ≡ xs)
    (lent_size : chunks_exact_mut_size (zip_second it) ≡ s.n) (lent_rest : chunks_exact_mut_rest (zip_second it) ≡ zs) where
  both : YieldsList (zip_steps chunks_exact_steps chunks_exact_mut_steps) (λ p. (p.0.now, p.1.now)) it (zip (polynomials s xs) (polynomials s zs))
  both = YieldsList-from_zip (yields_polynomials good xs long (zip_first it) size rest) (yields_lent good zs lent_long (zip_second it) lent_size lent_rest)

  both_many : length (zip (polynomials s xs) (polynomials s zs)) ≡ s.k
  both_many = length-zip (polynomials s xs) (polynomials s zs) ∙ omega (arith, length_table s.k (λ i. polynomial s.n i xs), length_table s.k (λ i. polynomial s.n i zs))

  module _ (ys : List (Bor (List ℕ) × MutBor (List ℕ))) (t : Zip (ChunksExact ℕ) (ChunksExactMut ℕ))
      (y : Yields (zip_steps chunks_exact_steps chunks_exact_mut_steps) it ys t) {r : Option (Bor (List ℕ) × MutBor (List ℕ))}
      (u : Zip (ChunksExact ℕ) (ChunksExactMut ℕ)) where
    pub comes_paired : (p : Bor (List ℕ) × MutBor (List ℕ)) → r ≡ Some p → zip_steps chunks_exact_steps chunks_exact_mut_steps t r u
        → Comes s xs (length ys) (length (ys ++ (p ∷ []))) (length ys) p.0.now × Comes s zs (length ys) (length (ys ++ (p ∷ []))) (length ys) p.1.now
    comes_paired p e g =
        let h = YieldsList-turn both ys t y r u p e g in
        let l : length ys < s.k = rw both_many at h.0 in
        let q : (p.0.now, p.1.now) ≡ (get_or (polynomials s xs) (length ys) p.0.now, get_or (polynomials s zs) (length ys) p.1.now)
        = h.1 ∙ get_or-zip (polynomials s xs) (polynomials s zs) (length ys) _ (rw (length_table s.k _) l) (rw (length_table s.k _) l) in
        let n : length (ys ++ (p ∷ [])) ≡ length ys + 1 = length-append ys (p ∷ []) in (
          record { at = refl; counted = n; inside = l; is = ap (λ o. o.0) q ∙ get_or_table s.k (length ys) _ p.0.now l },
          record { at = refl; counted = n; inside = l; is = ap (λ o. o.1) q ∙ get_or_table s.k (length ys) _ p.1.now l },
        )

    pub ends_paired : r ≡ None → zip_steps chunks_exact_steps chunks_exact_mut_steps t r u → length ys ≡ s.k
    ends_paired e g = (YieldsList-end both ys t y r u e g).1 ∙ both_many
