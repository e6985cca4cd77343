-- v_1..v_k are made one after another, and then their high parts: the steps up to c'. Assumes nothing.
use mathlib.Core.Path.{◌≡◌, sym, ap, ◌∙◌}
use mathlib.Core.List.{List, ◌++◌}
use Prim.Native.Nat.{ℕ, ◌+◌, ◌*◌, ◌-◌, ◌≤◌, ◌<◌}
use native.Mathlib.Numerals.{add-one}
use lib.IntN.{ℤ}
use lib.ListN.{length, take, drop}
use Rattle.whole.specs.ResidueLaws.{residue_eq}
use Rattle.whole.specs.Table.{joined}
use Rattle.whole.specs.TableLaws.{joined_ext, joined_length, joined_part, table_ext}
use Rattle.whole.specs.Below.{Below, Within}
use Rattle.whole.specs.BelowLaws.{below_joined, within_more}
use Rattle.whole.specs.Rows.{row_lent}
use Rattle.ring.specs.Product.{mul}
use Rattle.ring.specs.Lists.{naturals, integers, residues}
use Rattle.ring.specs.ListsLaws.{length_residues, residues_below, mul_residues}
use Rattle.ring.specs.Asks.{Small}
use Rattle.sets.specs.declared.Numbers.{Numbers}
use Rattle.sets.specs.Good.{Good}
use Rattle.sets.specs.Known.{Known, known_good}
use Rattle.highs.specs.declared.Highs.{Highs}
use Rattle.highs.specs.Highs.{Held, Adds}
use Rattle.highs.specs.HighsLaws.{held_more}
use Rattle.sets.specs.GoodLaws.{q_some}
use Rattle.sampling.specs.Streams.{y_of, highs_of, high_parts}
use Rattle.sampling.specs.StreamsLaws.{y_of_size}
use Rattle.sampling.proofs.DrawnLengths.{y_of_length}
use Rattle.sampling.specs.Residues.{Residues}
use Rattle.records.specs.ChunksLaws.{Comes}
use Rattle.records.specs.Layout.{polynomial}
use Rattle.records.specs.PublicLaws.{polynomial_length, polynomial_below}
use Rattle.attempts.specs.Steps.{product_of, v_row}
use Rattle.attempts.specs.Asks.{Multiplies, Absorbs, Commits}
use Rattle.attempts.specs.Promises.{Committed}
use Rattle.whole.specs.RowFill.{Filling, filling_none, filling_lent, filling_more, filling_all}

product_length : (set : Numbers) (a yr : List ℕ) (i : ℕ) → length (product_of set a yr i) ≡ set.n
unfolding product_of
product_length set a yr i = length_residues set.q set.n (mul set.n (naturals (polynomial set.n i a)) (naturals yr))

-- v_1..v_i are made
abbrev pub Multiplying : Numbers → List ℕ → List ℕ → List ℕ → List ℕ → ℕ → Type 0
Multiplying set a yr old v i = Filling set.n set.k (product_of set a yr) old v i

module _ {set : Numbers} {a yr old : List ℕ} (m : Multiplies set a yr old) where
  each : (i : ℕ) → i < set.k → length (product_of set a yr i) ≡ set.n
  each i l = product_length set a yr i

  pub multiplying_none : Multiplying set a yr old old 0
  multiplying_none = filling_none m.v_long each

  module _ {v : List ℕ} {i : ℕ} (h : Multiplying set a yr old v i) where
    pub multiplying_more : i < set.k → (new : List ℕ)
        → new ≡ residues set.q (length (take (set.n * i + set.n - set.n * i) (drop (set.n * i) v))) (mul (length (take (set.n * i + set.n - set.n * i) (drop (set.n * i) v))) (naturals (take (set.n * i + set.n - set.n * i) (drop (set.n * i) a))) (naturals yr))
        → Multiplying set a yr old (take (set.n * i) v ++ (new ++ drop (set.n * i + set.n - set.n * i) (drop (set.n * i) v))) (i + 1)
    unfolding product_of
    multiplying_more l new e =
        filling_more m.v_long each h l new (e ∙ rw (filling_lent m.v_long each h l, row_lent set.n i a))

    pub multiplying_all : set.k ≤ i → v ≡ joined set.k (product_of set a yr)
    multiplying_all l = filling_all m.v_long each h l

-- ---- y, its residues, v_1..v_k and their high parts

-- every coefficient of y is from −b to b
pub y_of_within : (set : Numbers) → Good set → (rand : List ℕ) (counter : ℕ) → Within set.b (y_of set rand counter)
y_of_within set good rand counter = record { at = λ i l. y_of_size set good rand counter i }

v_length : (set : Numbers) (a : List ℕ) (y : List ℤ) (i : ℕ) → length (v_row set a y i) ≡ set.n
unfolding v_row
v_length set a y i = length_residues set.q set.n (mul set.n (naturals (polynomial set.n i a)) (integers y))

pub v_all_below : (set : Numbers) → Good set → (a : List ℕ) (y : List ℤ) → Below set.q (joined set.k (v_row set a y))
unfolding v_row
v_all_below set good a y =
    below_joined set.q set.k (v_row set a y)
    (λ i l. residues_below set.q set.n (mul set.n (naturals (polynomial set.n i a)) (integers y)) (q_some good))

pub v_all_length : (set : Numbers) (a : List ℕ) (y : List ℤ) → length (joined set.k (v_row set a y)) ≡ set.k * set.n
v_all_length set a y = joined_length set.k set.n (v_row set a y) (λ j l. v_length set a y j)

-- of y's residues the products are those of y
product_v : (set : Numbers) → Good set → (a : List ℕ) (y : List ℤ) (i : ℕ) → product_of set a (residues set.q set.n (integers y)) i ≡ v_row set a y i
unfolding product_of v_row
product_v set good a y i =
    table_ext set.n _ _
    (λ k l. residue_eq set.q _ _ (q_some good) (mul_residues set.q set.n (naturals (polynomial set.n i a)) (integers y) k (q_some good) l))

-- the polynomials of v_1..v_k in a row
pub v_parts : (set : Numbers) (a : List ℕ) (y : List ℤ) (i : ℕ) → i < set.k → polynomial set.n i (joined set.k (v_row set a y)) ≡ v_row set a y i
v_parts set a y i l = joined_part set.k set.n i (v_row set a y) (λ j m. v_length set a y j) l

module _ {set : Numbers} (known : Known set) {first : List ℤ} {a yr v : List ℕ} (m : Commits set a first yr v)
    (rand : List ℕ) (counter : ℕ) {y : List ℤ} (e : y ≡ y_of set rand counter) where
  y_long : length y ≡ set.n
  y_long = ap length e ∙ y_of_length set (known_good known) rand counter

  pub commit_small : Small set.q y yr
  commit_small =
      record {
        small = (known_good known).q_small;
        some = q_some (known_good known);
        within = rw e (within_more (y_of set rand counter) (known_good known).b_small (y_of_within set (known_good known) rand counter));
        long = y_long ∙ sym m.yr_long;
      }

  module _ {residual : List ℕ} (f : residual ≡ residues set.q (length yr) (integers y)) where
    residual_is : residual ≡ residues set.q set.n (integers y)
    residual_is = f ∙ rw m.yr_long

    pub commit_multiplies : Multiplies set a residual v
    commit_multiplies =
        record {
          good = known_good known;
          a_long = m.a_long;
          a_below = m.a_below;
          y_long = ap length residual_is ∙ length_residues set.q set.n (integers y);
          y_below = rw residual_is (residues_below set.q set.n (integers y) (q_some (known_good known)));
          v_long = m.v_long;
        }

    module _ {made : List ℕ} (g : made ≡ joined set.k (product_of set a residual)) where
      pub commit_v : made ≡ joined set.k (v_row set a (y_of set rand counter))
      commit_v =
          g
          ∙ ap (λ (r : List ℕ). joined set.k (product_of set a r)) residual_is
          ∙ joined_ext set.k (product_of set a (residues set.q set.n (integers y))) (v_row set a y) (λ i l. product_v set (known_good known) a y i)
          ∙ ap (λ (x : List ℤ). joined set.k (v_row set a x)) e

      pub commit_absorbs : Absorbs set made
      commit_absorbs =
          record {
            v_long = ap length commit_v ∙ v_all_length set a (y_of set rand counter);
            v_below = rw commit_v (v_all_below set (known_good known) a (y_of set rand counter));
          }

      pub commit_made : {highs : Highs} → Held set (highs_of set (λ i. polynomial set.n i made)) highs → Committed set a rand counter y made highs
      unfolding highs_of
      commit_made h = record { y_is = e; v_is = commit_v; held = rw highs_are at h }
        where
          highs_are : highs_of set (λ i. polynomial set.n i made) ≡ highs_of set (v_row set a (y_of set rand counter))
          highs_are =
              joined_ext set.k _ _
              (λ i l. ap (high_parts set) (ap (polynomial set.n i) commit_v ∙ v_parts set a (y_of set rand counter) i l))

-- ---- the high parts of v_1..v_k, absorbed one polynomial after another

-- the high parts of v_(i + 1)
abbrev pub parts_of : Numbers → List ℕ → ℕ → List ℤ
parts_of set v i = high_parts set (polynomial set.n i v)

module _ {set : Numbers} {v : List ℕ} {m next i : ℕ} {x : List ℕ} (c : Comes set v m next i x) where
  pub absorbing_residues : Absorbs set v → Residues set x
  absorbing_residues a =
      rw c.is
      (record {
        long = polynomial_length set.n set.k i v a.v_long c.inside;
        below = polynomial_below set.q set.n i v a.v_below;
      })

  pub absorbing_more : {highs after : Highs} → Held set (joined m (parts_of set v)) highs → Adds set highs x after
      → Held set (joined next (parts_of set v)) after
  unfolding joined
  absorbing_more h g = rw (c.counted, add-one) (held_more (rw c.at h) (rw c.is at g))

-- all of them
pub absorbing_all : (set : Numbers) (v : List ℕ) {highs : Highs} {m : ℕ} → m ≡ set.k → Held set (joined m (parts_of set v)) highs
    → Held set (highs_of set (λ i. polynomial set.n i v)) highs
unfolding highs_of
absorbing_all set v e h = rw e at h
