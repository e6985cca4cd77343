-- A sum that is kept up to multiples of a multiple of q gives the residue of a coefficient of the product. Assumes nothing.
use Rattle.std.proofs.Common.{◌≡◌, sym, ap, ap₂, subst, ◌∙◌, List, reverse, zip, ℕ, suc, ◌+◌, ◌*◌, ◌-◌, ◌%◌, ◌≤◌, ◌<◌, add-zero, mod-lt, zero-add, add-one, arith, length, get_or, take, drop, length-drop, length-take-le, get_or-take, get_or-drop, ℤ, pos, ◌+ℤ◌, ◌-ℤ◌, ◌*ℤ◌}
use Rattle.std.proofs.lemmas.List.{get_or_default, get_or-reverse, length-reverse}
use Rattle.std.proofs.lemmas.Slice.Zip.{length-zip, get_or-zip}
use Rattle.std.proofs.Math.Nat.{mod-add-mod, mod-mod}
use Rattle.whole.specs.Int.{int, sum_is, minus_is, *ℤ-assoc}
use Rattle.whole.specs.Residue.{residue, Same}
use Rattle.whole.specs.ResidueLaws.{residue_is, residue_eq_same, same_refl, same_sym, same_trans, same_minus}
use Rattle.whole.specs.Sum.{total}
use Rattle.whole.specs.SumLaws.{sum_total, total_ext}
use Rattle.ring.specs.Product.{mul}
use Rattle.ring.specs.ProductLaws.{mul_written}
use Rattle.ring.specs.Lists.{naturals}
use Rattle.ring.specs.Asks.{crossing, crossed, Factors, Multiple, Kept, Addend, Foldable, Row}

-- ---- a sum up to multiples

-- the sum stands for acc and the first i products of a row
pub record After (multiple acc : ℕ) (xs ys : List ℕ) (i sum : ℕ) : Type 0 where
  pub kept : Kept multiple (acc + total i (crossing xs ys)) sum

pub after_none : {multiple acc : ℕ} {xs ys : List ℕ} → acc ≤ multiple → After multiple acc xs ys 0 acc
unfolding total
after_none {multiple = multiple} {acc = acc} h = record { kept = record { within = h; same = ap (λ (t : ℕ). t % multiple) (sym (add-zero acc)) } }

-- a turn at place i has xᵢ and y_(len − 1 − i)
module _ {multiple acc : ℕ} {xs ys : List ℕ} (f : Foldable multiple acc xs ys) where
  module _ {i sum x y : ℕ} (t : (i < length (zip xs (reverse ys))) × ((x, y) ≡ get_or (zip xs (reverse ys)) i (x, y))) (a : After multiple acc xs ys i sum) where
    inside : i < length xs
    inside = omega (arith, t.0, length-zip xs (reverse ys))

    in_back : i < length (reverse ys)
    in_back = omega (arith, inside, length-reverse ys, f.long)

    pair : ◌≡◌ {A = ℕ × ℕ} (x, y) (get_or xs i x, get_or (reverse ys) i y)
    pair = t.1 ∙ get_or-zip xs (reverse ys) i (x, y) inside in_back

    x_is : x ≡ get_or xs i 0
    x_is = ap (λ (p : ℕ × ℕ). p.0) pair ∙ get_or_default xs i x 0 inside

    y_is : y ≡ get_or ys (length xs - suc i) 0
    y_is =
        ap (λ (p : ℕ × ℕ). p.1) pair
        ∙ get_or_default (reverse ys) i y 0 in_back
        ∙ get_or-reverse ys i 0 (omega (arith, inside, f.long))
        ∙ ap (λ (j : ℕ). get_or ys j 0) (omega (arith, inside, f.long))

    pub next_fits : Addend multiple sum x y
    next_fits =
        record {
          x_below = rw x_is (f.x_below.at i inside);
          y_below = rw y_is (f.y_below.at (length xs - suc i) (omega (arith, inside, f.long)));
          start = a.kept.within;
          least = f.least;
          most = f.most;
        }

    pub after_more : {next : ℕ} → Kept multiple (sum + x * y) next → After multiple acc xs ys (i + 1) next
    unfolding total
    after_more {next} b = record { kept = record { within = b.within; same = same } }
      where
        one_more : acc + total i (crossing xs ys) + crossing xs ys i ≡ acc + total (i + 1) (crossing xs ys)
        one_more = rw (add-one i) (omega arith)

        same : next % multiple ≡ (acc + total (i + 1) (crossing xs ys)) % multiple
        same =
            b.same
            ∙ ap₂ (λ (m n : ℕ). (sum + m * n) % multiple) x_is y_is
            ∙ sym (mod-add-mod sum multiple (crossing xs ys i))
            ∙ ap (λ (t : ℕ). (t + crossing xs ys i) % multiple) a.kept.same
            ∙ mod-add-mod (acc + total i (crossing xs ys)) multiple (crossing xs ys i)
            ∙ ap (λ (t : ℕ). t % multiple) one_more

  pub after_all : {i sum : ℕ} → i ≡ length (zip xs (reverse ys)) → After multiple acc xs ys i sum → Kept multiple (acc + crossed xs ys) sum
  after_all {i} {sum} e a = subst (λ (n : ℕ). Kept multiple (acc + total n (crossing xs ys)) sum) whole a.kept
    where
      whole : i ≡ length xs
      whole = omega (arith, e, length-zip xs (reverse ys), length-reverse ys, f.long)

-- ---- the residue of a difference of two such sums

same_mod : (m a b : ℕ) → 0 < m → a % m ≡ b % m → Same m (pos a) (pos b)
unfolding residue
same_mod m a b h e = residue_eq_same m (pos a) (pos b) h e

-- what is congruent modulo a multiple of q is so modulo q
same_part : (q t : ℕ) {a b : ℤ} → Same (q * t) a b → Same q a b
same_part q t {a} {b} s =
    record {
      times = pos t *ℤ s.times;
      is = s.is ∙ ap (λ (x : ℤ). b +ℤ x) (*ℤ-assoc (pos q) (pos t) s.times);
    }

module _ (q multiple : ℕ) (some : 0 < q) (whole : Multiple q multiple) where
  same_kept : (z r : ℕ) → Kept multiple z r → Same q (pos r) (pos z)
  same_kept z r k =
      same_part q whole.times
      (subst (λ (m : ℕ). Same m (pos r) (pos z)) whole.is (same_mod multiple r z (omega (arith, whole.least)) k.same))

  -- `multiple − w` stands for −w
  less : (w s : ℕ) → w ≤ multiple → Same q (pos (multiple - w + s)) (pos s -ℤ pos w)
  less w s h = record { times = pos whole.times; is = is }
    where
      is : pos (multiple - w + s) ≡ (pos s -ℤ pos w) +ℤ pos (q * whole.times)
      is = omega (int, whole.is, minus_is (pos s) (pos w), sum_is (pos s -ℤ pos w) (pos (q * whole.times)))

  kept_residue : (w W s S : ℕ) → Kept multiple (0 + W) w → Kept multiple (multiple - w + S) s → s % q ≡ residue q (pos S -ℤ pos W)
  kept_residue w W s S kw ks =
      sym (residue_is q (s % q) (pos S -ℤ pos W) (mod-lt s some) (same_sym (same_trans (same_sym reduced) all)))
    where
      reduced : Same q (pos s) (pos (s % q))
      reduced = same_mod q s (s % q) some (sym (mod-mod s q))

      all : Same q (pos s) (pos S -ℤ pos W)
      all =
          same_trans (same_kept (multiple - w + S) s ks)
          (same_trans (less w S kw.within) (same_minus (same_refl q (pos S)) (same_kept W w (subst (λ (z : ℕ). Kept multiple z w) (zero-add W) kw))))

-- ---- coefficient k as a difference of two sums over parts of a and b

module _ (a b : List ℕ) (k : ℕ) (inside : k < length a) where
  abbrev m : ℕ
  m = length a - suc k

  front : crossed (take (suc k) a) (take (suc k) b) ≡ total (suc k) (λ i. get_or a i 0 * get_or b (k - i) 0)
  front =
      ap (λ (n : ℕ). total n (λ i. get_or (take (suc k) a) i 0 * get_or (take (suc k) b) (n - suc i) 0)) long
      ∙ total_ext (suc k) (λ i. get_or (take (suc k) a) i 0 * get_or (take (suc k) b) (suc k - suc i) 0) (λ i. get_or a i 0 * get_or b (k - i) 0)
      (λ i l. ap₂ ◌*◌ (get_or-take (suc k) a i 0 l) (get_or-take (suc k) b (suc k - suc i) 0 (omega arith) ∙ ap (λ (j : ℕ). get_or b j 0) (place i)))
    where
      long : length (take (suc k) a) ≡ suc k
      long = length-take-le (suc k) a inside

      place : (i : ℕ) → suc k - suc i ≡ k - i
      place i = omega arith

  back : crossed (drop (suc k) a) (drop (suc k) b) ≡ total m (λ j. get_or a (suc k + j) 0 * get_or b (suc k + (m - suc j)) 0)
  back =
      ap (λ (n : ℕ). total n (λ i. get_or (drop (suc k) a) i 0 * get_or (drop (suc k) b) (n - suc i) 0)) (length-drop (suc k) a)
      ∙ total_ext m (λ i. get_or (drop (suc k) a) i 0 * get_or (drop (suc k) b) (m - suc i) 0) (λ j. get_or a (suc k + j) 0 * get_or b (suc k + (m - suc j)) 0)
      (λ i l. ap₂ ◌*◌ (get_or-drop (suc k) a i 0) (get_or-drop (suc k) b (m - suc i) 0))

  pub coefficient : mul (length a) (naturals a) (naturals b) k ≡ pos (crossed (take (suc k) a) (take (suc k) b)) -ℤ pos (crossed (drop (suc k) a) (drop (suc k) b))
  coefficient =
      mul_written (length a) (naturals a) (naturals b) k m (omega arith)
      ∙ ap₂ ◌-ℤ◌ (sum_total (suc k) (λ i. get_or a i 0 * get_or b (k - i) 0) ∙ ap pos (sym front))
      (sum_total m (λ j. get_or a (suc k + j) 0 * get_or b (suc k + (m - suc j)) 0) ∙ ap pos (sym back))

-- what the code makes of its two sums: w is of what comes back at the front, with the other sign, and s of the rest
pub row_is : {q multiple : ℕ} {a b : List ℕ} {k : ℕ} (r : Row q multiple a b k) (w s : ℕ) → Kept multiple (0 + crossed (drop (k + 1) a) (drop (k + 1) b)) w
    → Kept multiple (multiple - w + crossed (take (k + 1) a) (take (k + 1) b)) s → s % q ≡ residue q (mul (length a) (naturals a) (naturals b) k)
row_is {q} {multiple} {a} {b} {k} r w s kw ks =
    kept_residue q multiple r.some r.whole w (crossed (drop (suc k) a) (drop (suc k) b)) s (crossed (take (suc k) a) (take (suc k) b)) (rw add-one at kw) (rw add-one at ks)
    ∙ ap (residue q) (sym (coefficient a b k r.inside))

-- ---- every row of a product

module _ {q : ℕ} {a b out : List ℕ} (f : Factors q a b out) where
  pub row_fits : {multiple k : ℕ} → Multiple q multiple → k < length a → Row q multiple a b k
  row_fits m l =
      record {
        small = f.small;
        some = f.some;
        long = f.b_long ∙ sym f.a_long;
        a_below = f.a_below;
        b_below = f.b_below;
        whole = m;
        inside = l;
      }

  pub row_of : {r : ℕ} (k : ℕ) → r ≡ residue q (mul (length a) (naturals a) (naturals b) k) → r ≡ residue q (mul (length out) (naturals a) (naturals b) k)
  row_of {r} k e = e ∙ ap (λ (n : ℕ). residue q (mul n (naturals a) (naturals b) k)) f.a_long
