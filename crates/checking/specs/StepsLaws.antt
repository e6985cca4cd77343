-- Laws of the steps of checking.
--     walked_none, walked_asks, walked_more      w_1, w_2, .. one after another, from whatever gives t_1..t_k
--     hash_answered        the answer on the high parts of w_1..w_k is the answer of the tests of the hash
-- Assumes nothing.
use Rattle.std.specs.Prelude.{◌≡◌, refl, ℕ, ◌+◌, ◌<◌, take}
use Rattle.std.proofs.Math.Path.{sym, ap, subst}
use Rattle.std.proofs.Common.{ap₂, ◌∙◌, add-one}
use mathlib.Core.List.{List, ◌++◌}
use Rattle.std.proofs.Math.IntN.{ℤ}
use Rattle.whole.specs.ResidueLaws.{residue_eq, same_refl, same_minus}
use Rattle.whole.specs.Table.{joined}
use Rattle.whole.specs.TableLaws.{joined_ext, table_ext}
use Rattle.answers.specs.Tests.{Answered}
use Rattle.ring.specs.Product.{mul}
use Rattle.ring.specs.Lists.{naturals, integers, residues}
use Rattle.ring.specs.ListsLaws.{mul_residues}
use Rattle.sets.specs.declared.Numbers.{Numbers}
use Rattle.sets.specs.Good.{Good}
use Rattle.sets.specs.GoodLaws.{q_some}
use Rattle.sampling.specs.Positions.{positions_of, signs_of, polynomial_of}
use Rattle.sampling.specs.Streams.{a_of, enc_of, highs_of, high_parts}
use Rattle.sampling.specs.DrawA.{values_left}
use Rattle.sampling.specs.DrawALaws.{at_first, at_asks, at_written, at_next}
use Rattle.sampling.specs.Residues.{Residues}
use Rattle.highs.specs.declared.Highs.{Highs}
use Rattle.highs.specs.Highs.{Held}
use Rattle.highs.specs.HighsLaws.{held_more}
use Rattle.checking.specs.declared.hash.Walk.{Walk}
use Rattle.checking.specs.Check.{check_w, check_highs, hash_tests}
use Rattle.checking.specs.Steps.{w_from, highs_upto, Begun, OneMore, Walked, Judged}
use Rattle.sampling.specs.Asks.{Terms}
use Rattle.checking.specs.Asks.{ForT}

-- ---- one w after another

module _ {set : Numbers} {seed_a : List ℕ} {t : ℕ → List ℕ} {zr ps : List ℕ} {ss : List ℤ} where
  pub walked_none : {r : Walk} → Begun set seed_a r → Walked set seed_a t zr ps ss 0 r
  unfolding highs_upto joined
  walked_none b = record { draw_is = at_first b.draw_is; highs_are = b.highs_are }

  module _ {i : ℕ} {walk : Walk} (walked : Walked set seed_a t zr ps ss i walk) (l : i < set.k) where
    pub walked_asks : {tᵢ : List ℕ} → Good set → Residues set tᵢ → Residues set zr → Terms set ps ss → ForT set walk.draw tᵢ zr ps ss
    walked_asks good t_is z_is c_is =
        record {
          valid = walked.draw_is.valid;
          needed = (at_asks walked.draw_is {places = set.n} good l refl).needed;
          t_is = t_is;
          z_is = z_is;
          c_is = c_is;
        }

    pub walked_more : {tᵢ : List ℕ} {r : Walk} → tᵢ ≡ t i → OneMore set walk tᵢ zr ps ss r → Walked set seed_a t zr ps ss (i + 1) r
    unfolding highs_upto joined
    walked_more {tᵢ} {r} e more =
        record {
          draw_is = at_next walked.draw_is l more.drawn;
          highs_are = subst (λ (parts : List ℤ). Held set parts r.highs) (one ∙ sym upto) (held_more walked.highs_are more.added);
        }
      where
        made : List ℤ
        made = highs_upto set seed_a t zr ps ss i

        one : made ++ high_parts set (w_from set (take set.n (values_left set walk.draw)) tᵢ zr ps ss)
            ≡ made ++ high_parts set (w_from set (a_of set seed_a i) (t i) zr ps ss)
        one = ap₂ (λ a u. made ++ high_parts set (w_from set a u zr ps ss)) (at_written walked.draw_is more.drawn) e

        upto : highs_upto set seed_a t zr ps ss (i + 1) ≡ made ++ high_parts set (w_from set (a_of set seed_a i) (t i) zr ps ss)
        upto = rw add-one

-- ---- all of them

module _ {set : Numbers} (good : Good set) (seed_a : List ℕ) (t : ℕ → List ℕ) (z : List ℤ) (c' : List ℕ) where
  -- with z itself in place of its residues
  w_check : (i : ℕ) → w_from set (a_of set seed_a i) (t i) (residues set.q set.n (integers z)) (positions_of (enc_of set c')) (signs_of (enc_of set c'))
      ≡ check_w set seed_a t z c' i
  unfolding w_from check_w
  w_check i =
      table_ext set.n _ _
      (λ k l. residue_eq set.q _ _ (q_some good)
      (same_minus (mul_residues set.q set.n (naturals (a_of set seed_a i)) (integers z) k (q_some good) l)
      (same_refl set.q (mul set.n (naturals (t i)) (polynomial_of (enc_of set c')) k))))

  highs_check : highs_upto set seed_a t (residues set.q set.n (integers z)) (positions_of (enc_of set c')) (signs_of (enc_of set c')) set.k
      ≡ check_highs set seed_a t z c'
  unfolding highs_upto check_highs highs_of
  highs_check = joined_ext set.k _ _ (λ i l. ap (high_parts set) (w_check i))

pub hash_answered : {set : Numbers} (seed_a : List ℕ) (t : ℕ → List ℕ) (z : List ℤ) {zr digest g c' : List ℕ} {highs : Highs} {number : ℕ} → Good set
    → zr ≡ residues set.q set.n (integers z)
    → Held set (highs_upto set seed_a t zr (positions_of (enc_of set c')) (signs_of (enc_of set c')) set.k) highs
    → Judged set highs digest g c' number → Answered (hash_tests set seed_a t g digest z c') number
unfolding hash_tests
hash_answered {set} seed_a t z {c' = c'} {highs} good e held judged =
    judged.is (check_highs set seed_a t z c')
    (subst (λ (parts : List ℤ). Held set parts highs) (highs_check good seed_a t z c') (rw e at held))
