-- What the steps of checking compute, over what the code holds: z as residues modulo q, c as positions with signs.
-- Assumes nothing: these are definitions.
use Rattle.std.specs.Prelude.{◌≡◌, List, [], ℕ, ℤ, ◌-ℤ◌, take}
use Rattle.whole.specs.Table.{joined}
use Rattle.answers.specs.Tests.{Answered}
use Rattle.ring.specs.Product.{mul}
use Rattle.ring.specs.Lists.{naturals, residues}
use Rattle.ring.specs.Sparse.{sparse}
use Rattle.sets.specs.declared.Numbers.{Numbers}
use Rattle.sampling.specs.Streams.{a_of, enc_of, high_parts}
use Rattle.sampling.specs.Residues.{Residues}
use Rattle.sampling.specs.Positions.{positions_of, signs_of}
use Rattle.sampling.specs.DrawA.{values_left}
use Rattle.sampling.specs.DrawALaws.{AtA}
use Rattle.sampling.specs.Promises.{StartedA, AfterA}
use Rattle.records.specs.Public.{t_of, seed_a_of}
use Rattle.highs.specs.declared.Highs.{Highs}
use Rattle.highs.specs.Highs.{Held, Adds}
use Rattle.checking.specs.declared.hash.Walk.{Walk}
use Rattle.checking.specs.Check.{high_tests}

-- a z − t c, from 0 to q − 1
unfoldable pub w_from : Numbers → List ℕ → List ℕ → List ℕ → List ℕ → List ℤ → List ℕ
w_from set a t zr ps ss =
    residues set.q set.n (λ j. mul set.n (naturals a) (naturals zr) j -ℤ mul set.n (naturals t) (sparse ps ss) j)

-- w is that, and so one polynomial modulo q
pub record IsW (set : Numbers) (a t zr ps : List ℕ) (ss : List ℤ) (w : List ℕ) : Type 0 where
  pub is : w ≡ w_from set a t zr ps ss
  pub residues_are : Residues set w

-- the high parts of w_1..w_m, of seed_a and t_1, t_2, ..
unfoldable pub highs_upto : Numbers → List ℕ → (ℕ → List ℕ) → List ℕ → List ℕ → List ℤ → ℕ → List ℤ
highs_upto set seed_a t zr ps ss m = joined m (λ i. high_parts set (w_from set (a_of set seed_a i) (t i) zr ps ss))

-- those of w_1..w_k, of a public record, with c = Enc(c')
abbrev pub highs_of_record : Numbers → List ℕ → List ℕ → List ℕ → List ℤ
highs_of_record set public zr c' =
    highs_upto set (seed_a_of set public) (t_of set public) zr (positions_of (enc_of set c')) (signs_of (enc_of set c')) set.k

-- before the first w: the stream of seed_a from its start, and no high parts
pub record Begun (set : Numbers) (seed_a : List ℕ) (r : Walk) : Type 0 where
  pub draw_is : StartedA set seed_a r.draw
  pub highs_are : Held set [] r.highs

-- one w more: a is the next of the stream, and its high parts are absorbed and tested
pub record OneMore (set : Numbers) (before : Walk) (t zr ps : List ℕ) (ss : List ℤ) (r : Walk) : Type 0 where
  pub drawn : AfterA set before.draw (take set.n (values_left set before.draw)) r.draw
  pub added : Adds set before.highs (w_from set (take set.n (values_left set before.draw)) t zr ps ss) r.highs

-- between w_i and w_(i + 1): the stream of seed_a still gives a_(i + 1).., and the high parts of w_1..w_i are held
pub record Walked (set : Numbers) (seed_a : List ℕ) (t : ℕ → List ℕ) (zr ps : List ℕ) (ss : List ℤ) (i : ℕ) (walk : Walk) : Type 0 where
  pub draw_is : AtA set seed_a i walk.draw
  pub highs_are : Held set (highs_upto set seed_a t zr ps ss i) walk.highs

-- the answer of the last two tests, on the high parts that are held
pub record Judged (set : Numbers) (highs : Highs) (digest g c' : List ℕ) (number : ℕ) : Type 0 where
  pub is : (parts : List ℤ) → Held set parts highs → Answered (high_tests set parts digest g c') number
