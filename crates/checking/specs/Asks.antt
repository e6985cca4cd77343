-- What the steps of checking ask of their arguments, as named records: a good set, lengths, residues below q, and a c of the right
-- form. No caller has to believe them, each shows them.
-- Assumes nothing: these are definitions.
use Rattle.std.specs.Prelude.{true, List, ◌≡◌, ℕ, ◌≤◌, ℤ, length}
use Rattle.sets.specs.declared.Numbers.{Numbers}
use Rattle.sets.specs.Good.{Good}
use Rattle.sampling.specs.declared.drawn.DrawA.{DrawA}
use Rattle.sampling.specs.DrawA.{ValidA}
use Rattle.sampling.specs.Residues.{Residues}
use Rattle.sampling.specs.Asks.{Terms}
use Rattle.records.specs.Layout.{public_bytes, signature_bytes}
use Rattle.records.specs.Public.{t_in_range, all_t}
use Rattle.signatures.specs.Signature.{z_of, z_in_range}

-- what `one_w` asks: t and z modulo q, c, a, and a place for w
pub record ForW (set : Numbers) (t zr ps : List ℕ) (ss : List ℤ) (a w : List ℕ) : Type 0 where
  pub good : Good set
  pub t_is : Residues set t
  pub z_is : Residues set zr
  pub c_is : Terms set ps ss
  pub a_is : Residues set a
  pub w_long : length w ≡ set.n

-- what `add_t` asks: t_i and z modulo q, c, and a stream that still has a_i
pub record ForT (set : Numbers) (draw : DrawA) (t zr ps : List ℕ) (ss : List ℤ) : Type 0 where
  pub valid : ValidA draw
  pub needed : set.n ≤ draw.need
  pub t_is : Residues set t
  pub z_is : Residues set zr
  pub c_is : Terms set ps ss

-- and places for a_i and w_i
pub record ForTIn (set : Numbers) (draw : DrawA) (t zr ps : List ℕ) (ss : List ℤ) (a w : List ℕ) : Type 0 where
  pub for_t : ForT set draw t zr ps ss
  pub a_long : length a ≡ set.n
  pub w_long : length w ≡ set.n

-- ---- after the tests of the inputs

-- what they have shown of the two records
pub record Tested (set : Numbers) (public signature : List ℕ) : Type 0 where
  pub public_long : length public ≡ public_bytes set
  pub signature_long : length signature ≡ signature_bytes set
  pub t_inside : t_in_range set (all_t set public) ≡ true
  pub z_inside : z_in_range set (z_of set signature) ≡ true

-- what `highs_of` asks: a public record whose t_1..t_k are in range, z modulo q, and a place for one t_i
pub record ForHighs (set : Numbers) (public zr t : List ℕ) : Type 0 where
  pub good : Good set
  pub public_long : length public ≡ public_bytes set
  pub t_inside : t_in_range set (all_t set public) ≡ true
  pub z_is : Residues set zr
  pub t_long : length t ≡ set.n

-- and places for c
pub record ForHighsIn (set : Numbers) (public zr positions : List ℕ) (signs : List ℤ) (t : List ℕ) : Type 0 where
  pub for_highs : ForHighs set public zr t
  pub positions_long : length positions ≡ set.h
  pub signs_long : length signs ≡ set.h

-- what `each_t` asks: the same with c
pub record ForEachT (set : Numbers) (public zr ps : List ℕ) (ss : List ℤ) (t : List ℕ) : Type 0 where
  pub for_highs : ForHighs set public zr t
  pub c_is : Terms set ps ss

-- what `z_residues` asks: a tested signature record, and a place for z's residues
pub record ForResidues (set : Numbers) (signature zr : List ℕ) : Type 0 where
  pub signature_long : length signature ≡ signature_bytes set
  pub z_inside : z_in_range set (z_of set signature) ≡ true
  pub zr_long : length zr ≡ set.n

-- and one for z
pub record ForResiduesIn (set : Numbers) (signature : List ℕ) (z : List ℤ) (zr : List ℕ) : Type 0 where
  pub good : Good set
  pub for_residues : ForResidues set signature zr
  pub z_long : length z ≡ set.n

-- what `public_g` asks: a record of the right length
pub record ForG (set : Numbers) (public : List ℕ) : Type 0 where
  pub good : Good set
  pub public_long : length public ≡ public_bytes set

-- what `check_hash_in` asks: tested records, and places for z modulo q and for one t_i
pub record ForWork (set : Numbers) (public signature zr t : List ℕ) : Type 0 where
  pub tested : Tested set public signature
  pub zr_long : length zr ≡ set.n
  pub t_long : length t ≡ set.n
