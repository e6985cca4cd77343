-- The search, one counter after another, and what it found. Assumes nothing.
use mathlib.Core.Path.{◌≡◌, refl, ap, ◌∙◌}
use mathlib.Core.List.{List}
use Prim.Native.Nat.{ℕ, zero, suc, ◌+◌, ◌≤◌, ◌<◌}
use native.Mathlib.Numerals.{add-one}
use native.Mathlib.Omega.{arith}
use lib.ListN.{length}
use Rattle.sets.specs.declared.Numbers.{Numbers}
use Rattle.attempts.specs.declared.Tried.{Tried}
use Rattle.attempts.specs.declared.Tried.TheVariants.{Passes, Fails, Overflows}
use Rattle.attempts.specs.Attempt.{Outcome, passes, fails, overflows}
use Rattle.attempts.specs.Promises.{Tries, tried_of, tried_signature}
use Rattle.signing.specs.Search.{Found, next, search_from, search}
use Rattle.signing.specs.Promises.{Gives}

-- ---- one counter after another

-- the counters before `counter` fail: the search goes on from there, and the signature record is as it was
pub record Searching (try : ℕ → Outcome) (budget : ℕ) (old signature : List ℕ) (counter : ℕ) : Type 0 where
  pub left : ℕ
  pub within : counter + left ≡ budget + 1
  pub is : search try budget ≡ search_from try left counter
  pub same : signature ≡ old
  pub long : length signature ≡ length old

pub searching_none : (try : ℕ → Outcome) (budget : ℕ) (old : List ℕ) → Searching try budget old old 1
searching_none try budget old = record { left = budget; within = omega arith; is = refl; same = refl; long = refl }

-- the search where it goes on from this counter
searching_is : {try : ℕ → Outcome} {budget : ℕ} {old signature : List ℕ} {counter : ℕ} → Searching try budget old signature counter → counter < budget + 1
    → (left : ℕ) × ((counter + 1 + left ≡ budget + 1) × (search try budget ≡ next (try counter) counter (search_from try left (suc counter))))
unfolding search_from
searching_is {try} {budget} {counter = counter} s l = go s.left s.within s.is
  where
    go : (left : ℕ) → counter + left ≡ budget + 1 → search try budget ≡ search_from try left counter
        → (left : ℕ) × ((counter + 1 + left ≡ budget + 1) × (search try budget ≡ next (try counter) counter (search_from try left (suc counter))))
    go zero w e = absurd (omega arith)
    go (suc left) w e = (left, (omega arith, e))

module _ {try : ℕ → Outcome} {budget : ℕ} {old signature : List ℕ} {counter : ℕ} (s : Searching try budget old signature counter) where
  module _ (l : counter < budget + 1) {set : Numbers} {new : List ℕ} {r : Tried} (t : Tries set (try counter) signature new r) where
    abbrev later : Found
    later = search_from try (searching_is s l).0 (suc counter)

    pub searching_found : r ≡ Passes → Gives set 0 (search try budget) old new 0 counter
    searching_found h = rw (searching_is s l).1.1 (go (try counter) t.answer t.signature)
      where
        go : (o : Outcome) → r ≡ tried_of o → new ≡ tried_signature set o signature → Gives set 0 (next o counter later) old new 0 counter
        go (passes z c') a w = record { number_is = refl; counter_is = refl; signature_is = w }
        go fails a w = absurd (let x : ◌≡◌ {A = ℕ} 0 1 = cc in omega arith)
        go overflows a w = absurd (let x : ◌≡◌ {A = ℕ} 0 1 = cc in omega arith)

    pub searching_overflow : r ≡ Overflows → Gives set 0 (search try budget) old new 10 0
    searching_overflow h = rw (searching_is s l).1.1 (go (try counter) t.answer t.signature)
      where
        go : (o : Outcome) → r ≡ tried_of o → new ≡ tried_signature set o signature → Gives set 0 (next o counter later) old new 10 0
        go (passes z c') a w = absurd (let x : ◌≡◌ {A = ℕ} 0 1 = cc in omega arith)
        go fails a w = absurd (let x : ◌≡◌ {A = ℕ} 0 1 = cc in omega arith)
        go overflows a w = record { number_is = refl; counter_is = refl; signature_is = w ∙ s.same }

    pub searching_more : r ≡ Fails → Searching try budget old new (counter + 1)
    searching_more h = go (try counter) t.answer t.signature (searching_is s l).1.1
      where
        go : (o : Outcome) → r ≡ tried_of o → new ≡ tried_signature set o signature → search try budget ≡ next o counter later → Searching try budget old new (counter + 1)
        go (passes z c') a w e = absurd (let x : ◌≡◌ {A = ℕ} 0 1 = cc in omega arith)
        go fails a w e =
            record {
              left = (searching_is s l).0;
              within = (searching_is s l).1.0;
              is = rw add-one e;
              same = w ∙ s.same;
              long = ap length (w ∙ s.same);
            }
        go overflows a w e = absurd (let x : ◌≡◌ {A = ℕ} 0 1 = cc in omega arith)

  pub searching_end : budget + 1 ≤ counter → {set : Numbers} → Gives set 0 (search try budget) old signature 8 0
  unfolding search_from
  searching_end l {set} = go s.left s.within s.is
    where
      go : (left : ℕ) → counter + left ≡ budget + 1 → search try budget ≡ search_from try left counter → Gives set 0 (search try budget) old signature 8 0
      go zero w e = rw e (record { number_is = refl; counter_is = refl; signature_is = s.same })
      go (suc left) w e = absurd (omega arith)
