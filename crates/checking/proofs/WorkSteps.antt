-- Checking after the tests of its inputs: what its parts ask, and that what they compute is what the definitions say.
--     small_z, z_is, residues_i       z modulo q
--     g_is, seed_is                   g and seed_a of a public record
--     Turn, turn_none, turn_asks      the loop over t_1..t_k of a public record
--     each_asks                       the same for c that is drawn from c'
--     highs_asks, work_answered       the whole
-- Assumes nothing.
use mathlib.Core.Path.{◌≡◌, sym, ap, ap₂, ◌∙◌}
use mathlib.Core.Bool.{true}
use mathlib.Core.List.{List}
use Prim.Native.Nat.{ℕ, ◌+◌, ◌*◌, ◌-◌, ◌<◌}
use native.Mathlib.Omega.{arith}
use borrow.Author.Tests.{leb-true}
use lib.IntN.{ℤ, pos, nat_abs}
use lib.ListN.{length, get_or, take, drop}
use Rattle.whole.specs.Below.{Below, Within}
use Rattle.whole.specs.EveryLaws.{every_at}
use Rattle.answers.specs.Tests.{Answered}
use Rattle.rounding.specs.Tests.{z_passes}
use Rattle.ring.specs.Asks.{Small}
use Rattle.ring.specs.Lists.{integers, residues}
use Rattle.sets.specs.declared.Numbers.{Numbers}
use Rattle.sets.specs.Good.{Good}
use Rattle.sets.specs.GoodLaws.{q_some}
use Rattle.sets.specs.Known.{Known, known_good}
use Rattle.sets.specs.Limits.{seed_bytes}
use Rattle.sets.specs.SetI.{set_i, good_i}
use Rattle.sampling.specs.Positions.{AreDrawn}
use Rattle.sampling.specs.Streams.{key_digest, enc_of}
use Rattle.sampling.specs.Residues.{made_residues}
use Rattle.records.specs.Layout.{t_bytes, z_bytes, public_bytes, signature_bytes}
use Rattle.records.specs.Public.{t_of, all_t, seed_a_of, t_in_range}
use Rattle.records.specs.PublicLaws.{t_of_length, all_t_polynomial, polynomial_below, t_in_range_below}
use Rattle.signatures.specs.Signature.{z_of, challenge_of, z_in_range}
use Rattle.signatures.specs.Laws.{z_of_length}
use Rattle.highs.specs.declared.Highs.{Highs}
use Rattle.highs.specs.Highs.{Held}
use Rattle.checking.specs.declared.hash.Walk.{Walk}
use Rattle.checking.specs.Check.{public_g, work_tests}
use Rattle.checking.specs.Asks.{ForT, ForEachT, ForHighs, ForResidues, ForResiduesIn, ForWork}
use Rattle.checking.specs.Steps.{highs_of_record, Begun, Walked, Judged}
use Rattle.sampling.proofs.DrawnLengths.{enc_terms}
use Rattle.checking.specs.StepsLaws.{walked_none, walked_asks, hash_answered}

-- ---- z

-- z in range is at most q in size
z_within : (set : Numbers) → Good set → (z : List ℤ) → z_in_range set z ≡ true → Within set.q z
unfolding z_in_range z_passes
z_within set good z e =
    record {
      at = λ i l. omega (arith, leb-true (nat_abs (get_or z i (pos 0))) (set.b - set.s) (every_at _ z i (pos 0) e l), good.b_small);
    }

module _ {set : Numbers} {signature : List ℕ} {z₀ : List ℤ} {zr₀ : List ℕ} (asked : ForResiduesIn set signature z₀ zr₀)
    {z : List ℤ} (zr : List ℕ) (e : z ≡ z_of set signature) (kept : length zr ≡ length zr₀) where
  zr_long : length zr ≡ set.n
  zr_long = kept ∙ asked.for_residues.zr_long

  pub small_z : Small set.q z zr
  small_z =
      record {
        small = asked.good.q_small;
        some = q_some asked.good;
        within = rw e (z_within set asked.good (z_of set signature) asked.for_residues.z_inside);
        long = ap length e ∙ z_of_length set signature ∙ sym zr_long;
      }

  pub z_is : {out : List ℕ} → out ≡ residues set.q (length zr) (integers z) → out ≡ residues set.q set.n (integers (z_of set signature))
  z_is f = f ∙ ap₂ (λ n l. residues set.q n (integers l)) zr_long e

pub residues_i : {set : Numbers} {signature : List ℕ} {z : List ℤ} {zr : List ℕ} → set ≡ set_i → ForResidues set signature zr → length z ≡ 1024
    → ForResiduesIn set signature z zr
residues_i e asked l = record { good = good_i e; for_residues = asked; z_long = rw e l }

-- ---- g

pub g_is : (set : Numbers) (public : List ℕ) {end : ℕ} {g : List ℕ} → end ≡ 2 + set.k * t_bytes set
    → g ≡ key_digest set (take (end - 2) (drop 2 public)) → g ≡ public_g set public
unfolding public_g
g_is set public {end} e f = f ∙ ap (λ m. key_digest set (take m (drop 2 public))) long
  where
    long : end - 2 ≡ set.k * t_bytes set
    long = omega (arith, e)

-- ---- t_1..t_k of a public record

pub seed_is : (set : Numbers) (public : List ℕ) {from : ℕ} → from ≡ 2 + set.k * t_bytes set → length public ≡ public_bytes set
    → take (length public - from) (drop from public) ≡ seed_a_of set public
unfolding seed_a_of
seed_is set public {from} e l = ap₂ (λ m f. take m (drop f public)) long e
  where
    long : length public - from ≡ seed_bytes
    long = omega (arith, e, l)

t_below : (set : Numbers) (public : List ℕ) → t_in_range set (all_t set public) ≡ true → (i : ℕ) → i < set.k → Below set.q (t_of set public i)
t_below set public inside i l =
    rw (← all_t_polynomial set public i l)
    (polynomial_below set.q set.n i (all_t set public) (t_in_range_below set (all_t set public) inside))

-- before t_1, between two turns, after t_k
abbrev pub Turn : Numbers → List ℕ → List ℕ → List ℕ → List ℤ → Walk → ℕ → Type 0
Turn set public zr ps ss walk i = Walked set (seed_a_of set public) (t_of set public) zr ps ss i walk

pub turn_none : {set : Numbers} {public zr ps : List ℕ} {ss : List ℤ} {t : List ℕ} {from : ℕ} {walk : Walk} → ForEachT set public zr ps ss t
    → from ≡ 2 + set.k * t_bytes set → Begun set (take (length public - from) (drop from public)) walk → Turn set public zr ps ss walk 0
turn_none {set} {public} asked e b = walked_none (rw (seed_is set public e asked.for_highs.public_long) at b)

pub turn_asks : {set : Numbers} {public zr ps t t₀ : List ℕ} {ss : List ℤ} {walk : Walk} {i : ℕ} → Turn set public zr ps ss walk i
    → ForEachT set public zr ps ss t₀ → i < set.k → t ≡ t_of set public i → ForT set walk.draw t zr ps ss
turn_asks {set} {public} {i = i} turn asked l e =
    walked_asks turn l asked.for_highs.good
    (record { long = ap length e ∙ t_of_length set public i; below = rw e (t_below set public asked.for_highs.t_inside i l) })
    asked.for_highs.z_is asked.c_is

-- ---- c

pub each_asks : {set : Numbers} {public zr t ps : List ℕ} {ss : List ℤ} (c' : List ℕ) → ForHighs set public zr t → AreDrawn (enc_of set c') ps ss
    → ForEachT set public zr ps ss t
each_asks c' asked drawn = record { for_highs = asked; c_is = enc_terms _ asked.good c' drawn }

-- ---- the whole

module _ {set : Numbers} {public signature zr₀ t : List ℕ} (known : Known set) (asked : ForWork set public signature zr₀ t)
    {zr : List ℕ} (e : zr ≡ residues set.q set.n (integers (z_of set signature))) where
  pub highs_asks : ForHighs set public zr t
  highs_asks =
      record {
        good = known_good known;
        public_long = asked.tested.public_long;
        t_inside = asked.tested.t_inside;
        z_is = made_residues (known_good known) (integers (z_of set signature)) e;
        t_long = asked.t_long;
      }

  pub work_answered : {bytes : ℕ} {highs : Highs} {digest g : List ℕ} {number : ℕ} → bytes ≡ signature_bytes set
      → Held set (highs_of_record set public zr (take (length signature - (bytes - seed_bytes)) (drop (bytes - seed_bytes) signature))) highs
      → g ≡ public_g set public → Judged set highs digest g (take (length signature - (bytes - seed_bytes)) (drop (bytes - seed_bytes) signature)) number
      → Answered (work_tests set public digest signature) number
  unfolding work_tests challenge_of
  work_answered {bytes} {highs} {digest} {g} {number} b held f judged =
      hash_answered (seed_a_of set public) (t_of set public) (z_of set signature) (known_good known) e (rw challenge at held)
      (rw (f, challenge) at judged)
    where
      from : bytes - seed_bytes ≡ 2 + z_bytes set
      from = omega (arith, b)

      long : length signature - (bytes - seed_bytes) ≡ seed_bytes
      long = omega (arith, b, asked.tested.signature_long)

      challenge : take (length signature - (bytes - seed_bytes)) (drop (bytes - seed_bytes) signature) ≡ challenge_of set signature
      challenge = ap₂ (λ m i. take m (drop i signature)) long from
