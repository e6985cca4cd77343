-- t_1..t_k one after another, each packed into its own stretch of the public record.
-- Assumes nothing.
use mathlib.Core.Path.{◌≡◌, refl, sym, ap, ap₂, ◌∙◌}
use mathlib.Core.List.{List, ◌++◌, append-nil, append_assoc}
use Prim.Native.Nat.{ℕ, ◌+◌, ◌*◌, ◌≤◌}
use native.Mathlib.Nat.{mul_comm}
use native.Mathlib.Numerals.{add-one}
use native.Mathlib.Omega.{arith}
use lib.ListN.{length, take, drop, length-append}
use lib.Seq.{length-take-le}
use Rattle.whole.specs.Table.{joined}
use Rattle.whole.specs.TableLaws.{joined_length, joined_ext, joined_part}
use Rattle.whole.specs.Written.{Written, written_kept, written_more, written_length}
use Rattle.packing.specs.Digits.{packed}
use Rattle.ring.specs.ListsLaws.{length_residues, residues_below}
use Rattle.sets.specs.declared.Numbers.{Numbers}
use Rattle.sets.specs.GoodLaws.{q_some}
use Rattle.sets.specs.Known.{Known, known_good}
use Rattle.sets.specs.SetI.{set_i}
use Rattle.sampling.specs.declared.drawn.DrawA.{DrawA}
use Rattle.sampling.specs.Asks.{NextA}
use Rattle.sampling.specs.DrawALaws.{AtA, at_first, at_asks, at_written, at_next}
use Rattle.sampling.specs.Promises.{StartedA, AfterA}
use Rattle.sampling.specs.Residues.{after_residues}
use Rattle.records.specs.Asks.{PacksT}
use Rattle.records.specs.ChunksLaws.{Comes}
use Rattle.records.specs.Layout.{t_bytes}
use Rattle.records.specs.Public.{packed_t}
use Rattle.records.specs.PublicLaws.{packed_t_length_lem, polynomial_length}
use Rattle.records.specs.SizeLaws.{stretch_fits}
use Rattle.keys.specs.Asks.{Places, ForT, ForNext, ForOne, ForPut}
use Rattle.keys.specs.Key.{sum_of, key_t, all_key_t}
use Rattle.keys.specs.KeyLaws.{key_t_length}
use Rattle.keys.specs.Promises.{OneMore, PutsOne, PutsT}

-- ---- one t

module _ {set : Numbers} {d d₁ : DrawA} {s e a sr t a₁ : List ℕ} where
  pub t_asks : ForNext set d s e → Places set a sr t → AfterA set d a₁ d₁ → length a₁ ≡ length a → ForT set a₁ s e sr t
  t_asks asked places drawn kept =
      record {
        good = asked.good;
        a_is = after_residues asked.good drawn (kept ∙ places.a_long);
        s_long = asked.s_long;
        e_long = asked.e_long;
        sr_long = places.sr_long;
        t_long = places.t_long;
      }

module _ {set : Numbers} {d d₁ : DrawA} {t₁ : List ℕ} (s e : List ℕ) where
  pub one_more : {a₁ : List ℕ} → AfterA set d a₁ d₁ → t₁ ≡ sum_of set a₁ s e → OneMore set d s e t₁ d₁
  one_more drawn f =
      record {
        t_is = f ∙ ap (λ l. sum_of set l s e) drawn.written;
        drawn = rw drawn.written at drawn;
      }

module _ {set : Numbers} {d d₁ : DrawA} {s e public t₁ : List ℕ} {i : ℕ} (asked : ForOne set d s e i public) (more : OneMore set d s e t₁ d₁) where
  pub pack_asks : PacksT set t₁ i public
  pack_asks =
      record {
        good = asked.for_next.good;
        polynomial = ap length more.t_is ∙ length_residues set.q set.n _;
        below = rw more.t_is (residues_below set.q set.n _ (q_some asked.for_next.good));
        inside = asked.inside;
        long = asked.public_long;
      }

  pub puts_one : {public₁ : List ℕ}
      → public₁ ≡ take (2 + t_bytes set * i) public ++ (packed set.t_bits t₁ ++ drop (2 + t_bytes set * i + t_bytes set) public)
      → PutsOne set d s e i public public₁ d₁
  puts_one put = record { put = rw more.t_is at put; drawn = more.drawn }

-- the places of set I
pub places_i : {set : Numbers} {a sr t : List ℕ} → set ≡ set_i → length a ≡ 1024 → length sr ≡ 1024 → length t ≡ 1024 → Places set a sr t
places_i i a sr t = rw i (record { a_long = a; sr_long = sr; t_long = t })

-- ---- t_1..t_k in the record

-- packed t_(i + 1), and t_1..t_i
abbrev one : Numbers → List ℕ → List ℕ → List ℕ → ℕ → List ℕ
one set s e seed_a i = packed set.t_bits (key_t set s e seed_a i)

abbrev upto : Numbers → List ℕ → List ℕ → List ℕ → ℕ → List ℕ
upto set s e seed_a i = joined i (one set s e seed_a)

module _ (set : Numbers) (s e seed_a : List ℕ) where
  one_long : (i : ℕ) → length (one set s e seed_a i) ≡ t_bytes set
  one_long i = packed_t_length_lem set _ (key_t_length set s e seed_a i)

  upto_long : (old : List ℕ) (i : ℕ) → 2 ≤ length old → length (take 2 old ++ upto set s e seed_a i) ≡ 2 + t_bytes set * i
  upto_long old i l =
      length-append (take 2 old) (upto set s e seed_a i)
      ∙ ap₂ ◌+◌ (length-take-le 2 old l) (joined_length i (t_bytes set) _ (λ j r. one_long j) ∙ mul_comm i (t_bytes set))

  upto_all : upto set s e seed_a set.k ≡ packed_t set (all_key_t set s e seed_a)
  unfolding packed_t all_key_t
  upto_all =
      joined_ext set.k _ _
      (λ i l. ap (packed set.t_bits) (sym (joined_part set.k set.n i (key_t set s e seed_a) (λ j r. key_t_length set s e seed_a j) l)))

-- t_1..t_m are written
pub record Turn (set : Numbers) (s e seed_a old public : List ℕ) (d : DrawA) (m : ℕ) : Type 0 where
  pub within : m ≤ set.k
  pub at : AtA set seed_a m d
  pub done : Written (take 2 old ++ upto set s e seed_a m) old public

module _ {set : Numbers} {s e seed_a old : List ℕ} (asked : ForPut set s e old) where
  pub turn_none : {d : DrawA} → StartedA set seed_a d → Turn set s e seed_a old old d 0
  unfolding joined
  turn_none started =
      record {
        within = omega arith;
        at = at_first started;
        done = rw (append-nil (take 2 old)) (written_kept 2 old (omega (arith, asked.public_long)));
      }

  module _ {public : List ℕ} {d : DrawA} {m : ℕ} (turn : Turn set s e seed_a old public d m) where
    so_far : length (take 2 old ++ upto set s e seed_a m) ≡ 2 + t_bytes set * m
    so_far = upto_long set s e seed_a old m (omega (arith, asked.public_long))

    module _ {next i : ℕ} {x : List ℕ} (c : Comes set e m next i x) where
      at_i : AtA set seed_a i d
      at_i = rw c.at turn.at

      pub one_asks : Known set → ForOne set d s x i public
      one_asks known =
          record {
            for_next =
                record {
                  good = known_good known;
                  valid = asks.valid;
                  needed = asks.needed;
                  s_long = asked.s_long;
                  e_long = rw c.is (polynomial_length set.n set.k i e asked.e_long c.inside);
                };
            inside = c.inside;
            public_long = written_length turn.done ∙ asked.public_long;
          }
        where
          asks : NextA set d set.n
          asks = at_asks at_i (known_good known) c.inside refl

      pub turn_more : {public₁ : List ℕ} {d₁ : DrawA} → PutsOne set d s x i public public₁ d₁ → Turn set s e seed_a old public₁ d₁ next
      unfolding key_t joined
      turn_more {public₁} puts =
          record {
            within = omega (arith, c.inside, c.counted);
            at = rw c.counted (at_next at_i c.inside puts.drawn);
            done = rw (c.counted, add-one, ← append_assoc (take 2 old) (upto set s e seed_a i) (one set s e seed_a i)) written;
          }
        where
          written : Written ((take 2 old ++ upto set s e seed_a i) ++ one set s e seed_a i) old public₁
          written =
              written_more (rw c.at turn.done) (2 + t_bytes set * i) (t_bytes set) (one set s e seed_a i) (rw c.at (sym so_far)) (one_long set s e seed_a i)
              (stretch_fits set old i asked.public_long c.inside) (rw (at_written at_i puts.drawn, c.is) at puts.put)

    pub turn_all : m ≡ set.k → PutsT set s e seed_a old public
    turn_all all =
        record {
          is =
              turn.done.is ∙ ap (λ b. (take 2 old ++ upto set s e seed_a m) ++ drop b old) so_far
              ∙ append_assoc (take 2 old) (upto set s e seed_a m) (drop (2 + t_bytes set * m) old)
              ∙ ap (λ j. take 2 old ++ (upto set s e seed_a j ++ drop (2 + t_bytes set * j) old)) all
              ∙ ap₂ (λ l b. take 2 old ++ (l ++ drop (2 + b) old)) (upto_all set s e seed_a) (mul_comm (t_bytes set) set.k);
        }
