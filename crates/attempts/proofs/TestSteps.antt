-- The tests on w_1..w_k, one after another, and z. Assumes nothing.
use mathlib.Core.Path.{◌≡◌, sym, ap, ◌∙◌}
use mathlib.Core.Bool.{Bool, true, false}
use mathlib.Core.Logic.{⊎_elim}
use mathlib.Core.List.{List, [], ◌∷◌}
use Prim.Native.Nat.{ℕ, suc, ◌+◌, ◌*◌, ◌-◌, ◌^◌, ◌≤◌, ◌<◌, zero-le, suc-le-suc}
use native.Mathlib.Omega.{arith}
use lib.IntN.{ℤ, pos, nat_abs, ◌+ℤ◌, ◌-ℤ◌, ◌*ℤ◌, +ℤ_comm}
use lib.ListN.{length, get_or}
use borrow.Author.Count.{below_more}
use Rattle.whole.specs.Int.{lt_or_le, abs_neg, abs_sum, abs_product}
use Rattle.whole.specs.Residue.{residue}
use Rattle.whole.specs.Table.{table}
use Rattle.whole.specs.TableLaws.{length_table, get_or_table, table_ext}
use Rattle.whole.specs.Below.{Below}
use Rattle.whole.specs.BelowLaws.{within_more, within_table}
use Rattle.whole.specs.TwosLaws.{signed_size}
use Rattle.whole.specs.Every.{every, each_below}
use Rattle.whole.specs.EveryLaws.{not_first, each_below_all, each_below_fails}
use Rattle.rounding.specs.Tests.{low_passes, size_passes}
use Rattle.rounding.specs.Asks.{LowTests, SizeTests}
use Rattle.ring.specs.Product.{Poly, turn, mul}
use Rattle.ring.specs.ProductLaws.{turn_low, turn_high}
use Rattle.ring.specs.Lists.{naturals, integers, signed_bytes, residues}
use Rattle.ring.specs.ListsLaws.{residues_below}
use Rattle.ring.specs.Sparse.{sparse, turns, Sign}
use Rattle.ring.specs.SparseLaws.{mul_sparse, sign_size}
use Rattle.ring.specs.Asks.{WithSmall, Summands}
use Rattle.sets.specs.declared.Numbers.{Numbers}
use Rattle.sets.specs.GoodLaws.{q_some, y_small}
use Rattle.records.specs.ChunksLaws.{Comes}
use Rattle.records.specs.PublicLaws.{polynomial_length, polynomial_below}
use Rattle.attempts.specs.Attempt.{w_passes}
use Rattle.attempts.specs.Steps.{z_with, w_one, w_with}
use Rattle.sampling.specs.Asks.{Terms}
use Rattle.attempts.specs.Asks.{MakesZ, TestsOneW, TestsW}

-- ---- a signed byte's product by c: at most 128 for each of c's h terms

turn_size : (n p : ℕ) (f : Poly) (k : ℕ) → ((i : ℕ) → nat_abs (f i) ≤ 128) → nat_abs (turn n p f k) ≤ 128
turn_size n p f k h =
    ⊎_elim (λ l. rw (turn_high n p f k l, abs_neg (f (n + k - p))) (h (n + k - p))) (λ l. rw (turn_low n p f k l) (h (k - p))) (lt_or_le k p)

turns_size : (n : ℕ) (f : Poly) (ps : List ℕ) (ss : List ℤ) (k : ℕ) → ((i : ℕ) → nat_abs (f i) ≤ 128)
    → ((i : ℕ) → i < length ss → Sign (get_or ss i (pos 0))) → nat_abs (turns n f ps ss k) ≤ 128 * length ps
unfolding turns
turns_size n f [] ss k h g = zero-le
turns_size n f (p ∷ ps) [] k h g = zero-le
turns_size n f (p ∷ ps) (s ∷ ss) k h g =
    omega (
      arith,
      abs_sum (s *ℤ turn n p f k) (turns n f ps ss k),
      abs_product s (turn n p f k),
      once,
      turn_size n p f k h,
      turns_size n f ps ss k h (λ i l. g (suc i) (suc-le-suc l)),
    )
  where
    once : nat_abs s * nat_abs (turn n p f k) ≡ 1 * nat_abs (turn n p f k)
    once = ap (λ (t : ℕ). t * nat_abs (turn n p f k)) (sign_size (g 0 (omega arith)))

module _ {set : Numbers} {ps : List ℕ} {ss : List ℤ} (t : Terms set ps ss) (e : List ℕ) (bytes : (i : ℕ) → get_or e i 0 < 2 ^ 8) where
  pub product_size : (k : ℕ) → k < set.n → nat_abs (mul set.n (signed_bytes e) (sparse ps ss) k) ≤ 128 * set.h
  product_size k l =
      rw (mul_sparse set.n (signed_bytes e) ps ss k l t.signed.inside, ← t.few)
      (turns_size set.n (signed_bytes e) ps ss k (λ i. signed_size (get_or e i 0) (bytes i)) t.signed.signs)

-- ---- z

module _ {set : Numbers} {s : List ℕ} {y : List ℤ} {ps : List ℕ} {ss z : List ℤ} (m : MakesZ set s y ps ss z) (bytes : (i : ℕ) → get_or s i 0 < 2 ^ 8) where
  module _ {sc : List ℤ} (e : sc ≡ table (length z) (mul (length z) (signed_bytes s) (sparse ps ss))) where
    sc_is : sc ≡ table set.n (mul set.n (signed_bytes s) (sparse ps ss))
    sc_is = e ∙ rw m.z_long

    sc_long : length sc ≡ set.n
    sc_long = ap length sc_is ∙ length_table set.n (mul set.n (signed_bytes s) (sparse ps ss))

    pub z_summands : Summands sc y
    z_summands =
        record {
          y_within =
              rw sc_is
              (within_table (2 ^ 29) set.n (mul set.n (signed_bytes s) (sparse ps ss))
              (λ k l. omega (arith, product_size m.terms s bytes k l, m.good.h_drawn)));
          x_within = within_more y (y_small m.good) m.y_within;
          long = m.y_long ∙ sym sc_long;
        }

    pub z_is : {new : List ℤ} → new ≡ table (length sc) (λ k. integers sc k +ℤ integers y k) → new ≡ z_with set s y (sparse ps ss)
    unfolding z_with
    z_is f =
        f
        ∙ ap (λ (n : ℕ). table n (λ k. integers sc k +ℤ integers y k)) sc_long
        ∙ table_ext set.n (λ k. integers sc k +ℤ integers y k) (λ k. integers y k +ℤ mul set.n (signed_bytes s) (sparse ps ss) k)
        (λ k l. +ℤ_comm (integers sc k) (integers y k) ∙ ap (λ (x : ℤ). integers y k +ℤ x) (at k l))
      where
        at : (k : ℕ) → k < set.n → integers sc k ≡ mul set.n (signed_bytes s) (sparse ps ss) k
        at k l = ap (λ (xs : List ℤ). get_or xs k (pos 0)) sc_is ∙ get_or_table set.n k (mul set.n (signed_bytes s) (sparse ps ss)) (pos 0) l

-- ---- one w

module _ {set : Numbers} {e v ps : List ℕ} {ss ec : List ℤ} (t : TestsOneW set e v ps ss ec) (bytes : (i : ℕ) → get_or e i 0 < 2 ^ 8) where
  module _ {new : List ℤ} (f : new ≡ table (length ec) (mul (length ec) (signed_bytes e) (sparse ps ss))) where
    new_is : new ≡ table set.n (mul set.n (signed_bytes e) (sparse ps ss))
    new_is = f ∙ rw t.ec_long

    pub w_small : WithSmall set.q v new
    w_small =
        record {
          numbers =
              record {
                small = t.good.q_small;
                some = q_some t.good;
                within =
                    rw new_is
                    (within_table set.q set.n (mul set.n (signed_bytes e) (sparse ps ss))
                    (λ k l. omega (arith, product_size t.terms e bytes k l, t.good.c_small)));
                long = ap length new_is ∙ length_table set.n (mul set.n (signed_bytes e) (sparse ps ss)) ∙ sym t.v_long;
              };
          below = t.v_below;
        }

    module _ {w : List ℕ} (g : w ≡ residues set.q (length v) (λ k. naturals v k -ℤ integers new k)) where
      pub w_is : w ≡ w_one set e v (sparse ps ss)
      unfolding w_one
      w_is =
          g
          ∙ ap (λ (n : ℕ). residues set.q n (λ k. naturals v k -ℤ integers new k)) t.v_long
          ∙ table_ext set.n (λ k. residue set.q (naturals v k -ℤ integers new k))
          (λ k. residue set.q (naturals v k -ℤ mul set.n (signed_bytes e) (sparse ps ss) k))
          (λ k l. ap (λ (x : ℤ). residue set.q (naturals v k -ℤ x)) (at k l))
        where
          at : (k : ℕ) → k < set.n → integers new k ≡ mul set.n (signed_bytes e) (sparse ps ss) k
          at k l = ap (λ (xs : List ℤ). get_or xs k (pos 0)) new_is ∙ get_or_table set.n k (mul set.n (signed_bytes e) (sparse ps ss)) (pos 0) l

      w_below : Below set.q w
      unfolding w_one
      w_below = rw w_is (residues_below set.q set.n (λ j. naturals v j -ℤ mul set.n (signed_bytes e) (sparse ps ss) j) (q_some t.good))

      pub w_low : LowTests set.q set.d set.e w
      w_low =
          record {
            below = w_below;
            small = t.good.q_small;
            step = t.good.d_some;
            fits = t.good.d_fits;
            room = t.good.e_fits;
          }

      pub w_sized : SizeTests set.q set.e w
      w_sized = record { below = w_below; small = t.good.q_small; room = t.good.e_fits }

      -- the low parts pass, and the sizes decide; or they do not
      module _ {low : Bool} (h : low ≡ every (λ x. low_passes set.q set.d set.e (pos x)) w) where
        pub w_both : {r : Bool} → low ≡ true → r ≡ every (λ x. size_passes set.q set.e (pos x)) w
            → r ≡ w_passes set (w_one set e v (sparse ps ss))
        unfolding w_passes
        w_both l k = rw (← w_is) (k ∙ sym (rw (sym h ∙ l)))

        pub w_fails : low ≡ false → low ≡ w_passes set (w_one set e v (sparse ps ss))
        unfolding w_passes
        w_fails l = rw (← w_is) (l ∙ sym (not_first (every (λ x. size_passes set.q set.e (pos x)) w) (sym h ∙ l)))

-- ---- w_1..w_k

-- whether w_(j + 1) passes
abbrev pub passes_w : Numbers → List ℕ → List ℕ → List ℕ → List ℤ → ℕ → Bool
passes_w set e v ps ss j = w_passes set (w_with set e v (sparse ps ss) j)

-- the test of w_(i + 1), where e_(i + 1) and v_(i + 1) come
module _ {set : Numbers} {e v ps : List ℕ} {ss before : List ℤ} (t : TestsW set e v ps ss before)
    {m next i : ℕ} {x y : List ℕ} (c : Comes set e m next i x × Comes set v m next i y) where
  pub pair_asks : {ec : List ℤ} → length ec ≡ length before → TestsOneW set x y ps ss ec
  pair_asks room =
      rw (c.0.is, c.1.is)
      (record {
        good = t.good;
        e_long = polynomial_length set.n set.k i e t.e_long c.0.inside;
        v_long = polynomial_length set.n set.k i v t.v_long c.1.inside;
        v_below = polynomial_below set.q set.n i v t.v_below;
        terms = t.terms;
        ec_long = room ∙ t.ec_long;
      })

  module _ {r : Bool} (f : r ≡ w_passes set (w_one set x y (sparse ps ss))) where
    is_test : r ≡ passes_w set e v ps ss i
    is_test = rw (c.0.is, c.1.is) at f

    pub pair_fails : r ≡ false → false ≡ each_below set.k (passes_w set e v ps ss)
    pair_fails g = sym (each_below_fails set.k i (passes_w set e v ps ss) c.0.inside (sym is_test ∙ g))

    pub pair_passes : r ≡ true → ((j : ℕ) → j < m → passes_w set e v ps ss j ≡ true) → (j : ℕ) → j < next → passes_w set e v ps ss j ≡ true
    pair_passes g h = rw c.0.counted (below_more (λ j. passes_w set e v ps ss j ≡ true) i (rw c.0.at h) (sym is_test ∙ g))

-- all passed
pub pairs_all : {k m : ℕ} (p : ℕ → Bool) → m ≡ k → ((j : ℕ) → j < m → p j ≡ true) → true ≡ each_below k p
pairs_all p e h = sym (each_below_all _ p (rw e at h))
