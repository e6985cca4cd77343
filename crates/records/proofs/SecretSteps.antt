-- The steps of reading and writing a secret record.
-- Assumes nothing.
use mathlib.Core.Path.{◌≡◌, refl, ap, ◌∙◌}
use mathlib.Core.List.{List, ◌++◌, append_assoc}
use Prim.Native.Nat.{ℕ, ◌+◌, ◌*◌, ◌-◌}
use native.Mathlib.Omega.{arith}
use lib.ListN.{length, take, drop}
use borrow.Author.Tests.{eqb-true}
use Rattle.whole.specs.Every.{every}
use Rattle.answers.specs.ResultLaws.{passed_ok}
use Rattle.answers.specs.Tests.{Answered, AllPass}
use Rattle.sets.specs.declared.Numbers.{Numbers}
use Rattle.sets.specs.Good.{Good}
use Rattle.sets.specs.Limits.{seed_bytes}
use Rattle.records.specs.Layout.{mark}
use Rattle.records.specs.Pieces.{standing_kept, standing_mark, standing_copy, standing_take, standing_all}
use Rattle.records.specs.Secret.{secret_record, s_of, all_e, secret_seed_a, secret_seed_y, secret_g, byte_tests, secret_tests, read_secret_tests, write_secret_tests}
use Rattle.records.specs.SecretLaws.{s_lent, e_lent}
use Rattle.records.specs.Asks.{SecretPlaces, TailPlaces}

-- s and e where they stand in a record
pub bytes_lent : (set : Numbers) (secret : List ℕ) {middle end number : ℕ} → middle ≡ 2 + set.n → end ≡ 2 + set.n + set.k * set.n
    → Answered (byte_tests (take (middle - 2) (drop 2 secret)) (take (end - middle) (drop middle secret))) number
    → Answered (byte_tests (s_of set secret) (all_e set secret)) number
bytes_lent set secret e f a = rw (s_lent set secret e f, e_lent set secret e f) at a

-- ---- reading

-- a record that is read has its length, and so have the outputs
pub read_takes : {set : Numbers} {secret s e seed_a seed_y g : List ℕ} → Good set
    → Answered (read_secret_tests set secret (length s) (length e) (length seed_a) (length seed_y) (length g)) 0 → SecretPlaces set secret s e seed_a seed_y g
unfolding read_secret_tests secret_tests byte_tests AllPass every
read_takes good a =
    let p = passed_ok a refl in
    record {
      good = good;
      long = eqb-true _ _ p.1.1.1.1.1.0;
      lengths =
          record {
            s_long = eqb-true _ _ p.0;
            e_long = eqb-true _ _ p.1.0;
            seed_a_long = eqb-true _ _ p.1.1.0;
            seed_y_long = eqb-true _ _ p.1.1.1.0;
            g_long = eqb-true _ _ p.1.1.1.1.0;
          };
    }

module _ {set : Numbers} {secret s e seed_a seed_y g : List ℕ} (p : SecretPlaces set secret s e seed_a seed_y g) where
  -- the values, each from its own stretch
  pub take_s : {new : List ℕ} → new ≡ take (length s) (drop 2 secret) → new ≡ s_of set secret
  unfolding s_of
  take_s f = f ∙ rw p.lengths.s_long

  pub take_e : {new : List ℕ} {at : ℕ} → at ≡ 2 + set.n → new ≡ take (length e) (drop at secret) → new ≡ all_e set secret
  unfolding all_e
  take_e h f = f ∙ rw (p.lengths.e_long, h)

module _ {set : Numbers} {secret seed_a seed_y g new : List ℕ} {at : ℕ} (p : TailPlaces set secret seed_a seed_y g) where
  pub take_seed_a : at ≡ 2 + set.n + set.k * set.n → new ≡ take (length seed_a) (drop at secret) → new ≡ secret_seed_a set secret
  unfolding secret_seed_a
  take_seed_a h f = f ∙ rw (p.seed_a_long, h)

  pub take_seed_y : at ≡ 2 + set.n + set.k * set.n + seed_bytes → new ≡ take (length seed_y) (drop at secret) → new ≡ secret_seed_y set secret
  unfolding secret_seed_y
  take_seed_y h f = f ∙ rw (p.seed_y_long, h)

  pub take_g : at ≡ 2 + set.n + set.k * set.n + seed_bytes + seed_bytes → new ≡ take (length g) (drop at secret) → new ≡ secret_g set secret
  unfolding secret_g
  take_g h f = f ∙ rw (p.g_long, h)

-- ---- writing

-- seed_a, seed_y and g one after the other
pub put_tail_is : {set : Numbers} {seed_a seed_y g old first second third : List ℕ} {at atY atG : ℕ} → TailPlaces set old seed_a seed_y g
    → at ≡ 2 + set.n + set.k * set.n
    → first ≡ take at old ++ (seed_a ++ drop (at + length seed_a) old)
    → atY ≡ 2 + set.n + set.k * set.n + seed_bytes
    → second ≡ take atY first ++ (seed_y ++ drop (atY + length seed_y) first)
    → atG ≡ 2 + set.n + set.k * set.n + seed_bytes + seed_bytes
    → third ≡ take atG second ++ (g ++ drop (atG + length g) second)
    → third ≡ take (2 + set.n + set.k * set.n) old ++ (seed_a ++ (seed_y ++ g))
put_tail_is {set} {seed_a} {seed_y} {g} {old} p h a h_y b h_g c =
    let w₁ = standing_copy (standing_kept (2 + set.n + set.k * set.n) old (omega (arith, p.long))) seed_a h p.seed_a_long (omega (arith, p.long)) a in
    let w₂ = standing_copy w₁ seed_y h_y p.seed_y_long (omega (arith, p.long)) b in
    let w₃ = standing_copy w₂ g h_g p.g_long (omega (arith, p.long)) c in
    standing_all w₃ (omega (arith, p.long)) ∙ simp append_assoc

-- the mark, s, e and the rest one after the other
pub put_is : {set : Numbers} {s e seed_a seed_y g old marks first second third : List ℕ} {at : ℕ} → SecretPlaces set old s e seed_a seed_y g
    → marks ≡ mark set 2 ++ drop 2 old
    → first ≡ take 2 marks ++ (s ++ drop (2 + length s) marks)
    → at ≡ 2 + set.n
    → second ≡ take at first ++ (e ++ drop (at + length e) first)
    → third ≡ take (2 + set.n + set.k * set.n) second ++ (seed_a ++ (seed_y ++ g))
    → third ≡ secret_record set s e seed_a seed_y g
unfolding secret_record
put_is {set} {s} {e} {seed_a} {seed_y} {g} {old} p a b h c d =
    let w₁ = standing_copy (standing_mark set 2 old (omega (arith, p.long)) a) s refl p.lengths.s_long (omega (arith, p.long)) b in
    let w₂ = standing_copy w₁ e h p.lengths.e_long (omega (arith, p.long)) c in
    d ∙ ap (λ (l : List ℕ). l ++ (seed_a ++ (seed_y ++ g))) (standing_take w₂) ∙ simp append_assoc

-- values and a record that pass the tests
pub write_puts : {set : Numbers} {s e seed_a seed_y g secret : List ℕ} → Good set
    → Answered (write_secret_tests set s e seed_a seed_y g (length secret)) 0 → SecretPlaces set secret s e seed_a seed_y g
unfolding write_secret_tests byte_tests AllPass every
write_puts good a =
    let p = passed_ok a refl in
    record {
      good = good;
      lengths =
          record {
            s_long = eqb-true _ _ p.0;
            e_long = eqb-true _ _ p.1.0;
            seed_a_long = eqb-true _ _ p.1.1.0;
            seed_y_long = eqb-true _ _ p.1.1.1.0;
            g_long = eqb-true _ _ p.1.1.1.1.0;
          };
      long = eqb-true _ _ p.1.1.1.1.1.0;
    }
