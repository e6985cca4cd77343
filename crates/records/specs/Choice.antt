-- Which set a record is of: its mark says it. A record has set I's mark of its kind, set III's, or an unknown one, also where it has fewer than two
-- bytes; an unknown one is judged as set I's.
-- Assumes nothing: these are definitions.
use Rattle.std.specs.Prelude.{cond, List, ℕ}
use Rattle.sets.specs.declared.Numbers.{Numbers}
use Rattle.sets.specs.SetI.{set_i}
use Rattle.sets.specs.SetIII.{set_iii}
use Rattle.records.specs.Layout.{marked}

-- the set by which a record of kind j is judged. Its mark is unknown where the record is not marked as one of that set
unfoldable pub set_of : ℕ → List ℕ → Numbers
set_of j bytes = cond (marked set_iii j bytes) set_iii set_i

-- the same beside an entry that works in `set`, so that lists of tests are over any set's numbers: `set` where the record has its mark.
-- No entry takes its set from a record yet
unfoldable pub own_set : Numbers → ℕ → List ℕ → Numbers
own_set set j bytes = cond (marked set j bytes) set (set_of j bytes)
