-- What packing and multiplying promise in set I: the output is as it was where a length or a value does not fit.
-- Assumes nothing: these are definitions.
use Rattle.std.specs.Prelude.{◌≡◌, Bool, cond, ◌&&◌, List, ℕ, eqb, length}
use Rattle.packing.specs.Digits.{packed}
use Rattle.ring.specs.Lists.{naturals, residues}
use Rattle.ring.specs.Product.{mul}
use Rattle.sets.specs.SetI.{set_i}
use Rattle.records.specs.Public.{t_in_range}

pub record PacksOne (t old new : List ℕ) : Type 0 where
  pub is : new ≡ cond (t_in_range set_i t) (packed set_i.t_bits t) old

-- factors of one length, which is the product's, with values from 0 to q − 1
abbrev pub multiplies : List ℕ → List ℕ → ℕ → Bool
multiplies a b places = eqb (length a) places && (eqb (length b) places && (t_in_range set_i a && t_in_range set_i b))

pub record Multiplies (a b old new : List ℕ) : Type 0 where
  pub is :
      new
      ≡ cond (multiplies a b (length old)) (residues set_i.q (length old) (mul (length old) (naturals a) (naturals b))) old
