-- What the search finds: the smallest counter whose attempt passes, and none only where every attempt fails.
-- Assumes nothing.
use Rattle.std.specs.Prelude.{◌≡◌, refl, List, ℕ, zero, suc, ◌+◌, ◌≤◌, ◌<◌, ℤ}
use Rattle.std.proofs.Common.{subst, ◌∙◌, ⊎_elim, arith}
use Rattle.whole.specs.Int.{lt_or_le}
use Rattle.attempts.specs.Attempt.{Outcome, passes, fails, overflows}
use Rattle.signing.specs.Search.{found, none, overflow, next, search_from}

-- the search stopped at `counter`: the attempts from `from` up to it fail, and it is one of `left` counters from `from` on
pub record Stopped (attempt : ℕ → Outcome) (left from counter : ℕ) (at : Outcome) : Type 0 where
  pub inside_low : from ≤ counter
  pub inside_high : counter < from + left
  pub before : (j : ℕ) → from ≤ j → j < counter → attempt j ≡ fails
  pub here : attempt counter ≡ at

earlier : (attempt : ℕ → Outcome) (left from counter : ℕ) (at : Outcome) → attempt from ≡ fails → Stopped attempt left (suc from) counter at → Stopped attempt (suc left) from counter at
earlier attempt left from counter at e s =
    record {
      inside_low = omega (arith, s.inside_low);
      inside_high = omega (arith, s.inside_high);
      before = λ j l m. ⊎_elim (λ lt. s.before j lt m) (λ le. subst (λ (i : ℕ). attempt i ≡ fails) (same j l le) e) (lt_or_le from j);
      here = s.here;
    }
  where
    same : (j : ℕ) → from ≤ j → j ≤ from → from ≡ j
    same j l le = omega arith

now : (attempt : ℕ → Outcome) (left from : ℕ) (at : Outcome) → attempt from ≡ at → Stopped attempt (suc left) from from at
now attempt left from at e =
    record { inside_low = omega arith; inside_high = omega arith; before = λ j l m. absurd (omega arith); here = e }

-- what the search gives where the attempt at `from` gives o, over the law for the counters after it
module _ (attempt : ℕ → Outcome) (left from : ℕ) where
  found_step : (counter : ℕ) (z : List ℤ) (c' : List ℕ)
      → (search_from attempt left (suc from) ≡ found counter z c' → Stopped attempt left (suc from) counter (passes z c'))
      → (o : Outcome) → attempt from ≡ o → next o from (search_from attempt left (suc from)) ≡ found counter z c'
      → Stopped attempt (suc left) from counter (passes z c')
  found_step counter z c' later (passes y d) h e =
      let at : from ≡ counter = cc in
      let same : passes y d ≡ passes z c' = cc in
      subst (λ (i : ℕ). Stopped attempt (suc left) from i (passes z c')) at (now attempt left from (passes z c') (h ∙ same))
  found_step counter z c' later fails h e = earlier attempt left from counter (passes z c') h (later e)
  found_step counter z c' later overflows h e = absurd (let x : ◌≡◌ {A = ℕ} 0 1 = cc in omega arith)

  none_step : (search_from attempt left (suc from) ≡ none → (j : ℕ) → suc from ≤ j → j < suc from + left → attempt j ≡ fails)
      → (o : Outcome) → attempt from ≡ o → next o from (search_from attempt left (suc from)) ≡ none
      → (j : ℕ) → from ≤ j → j < from + suc left → attempt j ≡ fails
  none_step later (passes y d) h e j l m = absurd (let x : ◌≡◌ {A = ℕ} 0 1 = cc in omega arith)
  none_step later fails h e j l m =
      ⊎_elim (λ lt. later e j lt (omega arith)) (λ le. subst (λ (i : ℕ). attempt i ≡ fails) (omega arith) h) (lt_or_le from j)
  none_step later overflows h e j l m = absurd (let x : ◌≡◌ {A = ℕ} 0 1 = cc in omega arith)

  overflow_step : (search_from attempt left (suc from) ≡ overflow → (j : ℕ) × (attempt j ≡ overflows))
      → (o : Outcome) → attempt from ≡ o → next o from (search_from attempt left (suc from)) ≡ overflow → (j : ℕ) × (attempt j ≡ overflows)
  overflow_step later (passes y d) h e = absurd (let x : ◌≡◌ {A = ℕ} 0 1 = cc in omega arith)
  overflow_step later fails h e = later e
  overflow_step later overflows h e = (from, h)

-- what is found is the smallest counter that passes, with that attempt's z and c'
pub found_smallest : (attempt : ℕ → Outcome) (left from counter : ℕ) (z : List ℤ) (c' : List ℕ)
    → search_from attempt left from ≡ found counter z c' → Stopped attempt left from counter (passes z c')
unfolding search_from
found_smallest attempt zero from counter z c' e = absurd (let x : ◌≡◌ {A = ℕ} 0 1 = cc in omega arith)
found_smallest attempt (suc left) from counter z c' e =
    found_step attempt left from counter z c' (found_smallest attempt left (suc from) counter z c') (attempt from) refl e

-- none is found only where every attempt fails
pub none_fails : (attempt : ℕ → Outcome) (left from : ℕ) → search_from attempt left from ≡ none
    → (j : ℕ) → from ≤ j → j < from + left → attempt j ≡ fails
unfolding search_from
none_fails attempt zero from e j l m = absurd (omega arith)
none_fails attempt (suc left) from e j l m =
    none_step attempt left from (none_fails attempt left (suc from)) (attempt from) refl e j l m

-- the search ends in an overflow only where an attempt overflows
pub overflow_somewhere : (attempt : ℕ → Outcome) (left from : ℕ) → search_from attempt left from ≡ overflow → (j : ℕ) × (attempt j ≡ overflows)
unfolding search_from
overflow_somewhere attempt zero from e = absurd (let x : ◌≡◌ {A = ℕ} 0 1 = cc in omega arith)
overflow_somewhere attempt (suc left) from e = overflow_step attempt left from (overflow_somewhere attempt left (suc from)) (attempt from) refl e
