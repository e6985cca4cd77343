-- What this crate's code asks of its arguments, and what it says of sums on the way, as named records. They are conditions on
-- lengths and sizes; no caller has to believe them, each shows them.
-- Assumes nothing: these are definitions.
use Rattle.std.specs.Prelude.{List, ◌≡◌, ℕ, suc, ◌*◌, ◌-◌, ◌%◌, ◌^◌, ◌≤◌, ◌<◌, length, get_or, ℤ, nat_abs}
use Rattle.whole.specs.Sum.{total}
use Rattle.whole.specs.Below.{Below, Within}
use Rattle.ring.specs.Sparse.{Signed}

-- ---- the plain product

-- two factors modulo q and the place for their product
pub record Factors (q : ℕ) (a b out : List ℕ) : Type 0 where
  -- twice a product of residues fits the machine's word
  pub small : q ≤ 2 ^ 31
  pub some : 0 < q
  pub a_long : length a ≡ length out
  pub b_long : length b ≡ length out
  pub a_below : Below q a
  pub b_below : Below q b

-- ---- one coefficient of it, as the code sums it

-- xᵢ · y_(len − 1 − i)
abbrev pub crossing : List ℕ → List ℕ → ℕ → ℕ
crossing xs ys i = get_or xs i 0 * get_or ys (length xs - suc i) 0

-- and their sum
abbrev pub crossed : List ℕ → List ℕ → ℕ
crossed xs ys = total (length xs) (crossing xs ys)

-- a large multiple of q: a sum at most `multiple` with one product more fits the machine's word
pub record Multiple (q multiple : ℕ) : Type 0 where
  pub times : ℕ
  pub is : multiple ≡ q * times
  pub least : 2 ^ 62 ≤ multiple
  pub most : multiple ≤ 2 ^ 63

-- r stands for z up to multiples of `multiple`
pub record Kept (multiple z r : ℕ) : Type 0 where
  pub within : r ≤ multiple
  pub same : r % multiple ≡ z % multiple

-- one product x · y to a sum
pub record Addend (multiple sum x y : ℕ) : Type 0 where
  -- the product is below 2^62
  pub x_below : x < 2 ^ 31
  pub y_below : y < 2 ^ 31
  pub start : sum ≤ multiple
  -- what is left past the multiple is at most the product, so below the multiple
  pub least : 2 ^ 62 ≤ multiple
  -- the sum with the product fits the machine's word
  pub most : multiple ≤ 2 ^ 63

-- the products xᵢ · y_(len − 1 − i) to a sum: each of them as above
pub record Foldable (multiple acc : ℕ) (xs ys : List ℕ) : Type 0 where
  -- y is read from its end
  pub long : length ys ≡ length xs
  pub x_below : Below (2 ^ 31) xs
  pub y_below : Below (2 ^ 31) ys
  pub start : acc ≤ multiple
  pub least : 2 ^ 62 ≤ multiple
  pub most : multiple ≤ 2 ^ 63

-- coefficient k of a product
pub record Row (q multiple : ℕ) (a b : List ℕ) (k : ℕ) : Type 0 where
  -- residues by q are below 2^31
  pub small : q ≤ 2 ^ 31
  pub some : 0 < q
  pub long : length b ≡ length a
  pub a_below : Below q a
  pub b_below : Below q b
  -- what is dropped from a sum is 0 modulo q
  pub whole : Multiple q multiple
  pub inside : k < length a

-- ---- the product by a sparse polynomial

-- coefficient k of f · c
pub record Turnable (n : ℕ) (ps : List ℕ) (ss : List ℤ) (k : ℕ) : Type 0 where
  -- every position is inside f, and every sign is +1 or −1
  pub terms : Signed n ps ss
  -- 2^16 numbers below 2^32 sum to what fits the machine's word
  pub few : length ps < 2 ^ 16
  pub inside : k < n

-- t · c modulo q, and the place for it
pub record SparseProduct (q : ℕ) (t ps : List ℕ) (ss : List ℤ) (out : List ℕ) : Type 0 where
  -- the divisor of the one division of a row
  pub some : 0 < q
  -- one coefficient to write for each that t has
  pub long : length t ≡ length out
  pub below : Below q t
  pub terms : Signed (length t) ps ss
  -- a row's sum fits the machine's word
  pub few : length ps < 2 ^ 16

-- s · c of signed bytes, and the place for it
pub record ByteProduct (s ps : List ℕ) (ss out : List ℤ) : Type 0 where
  -- one coefficient to write for each that s has
  pub long : length s ≡ length out
  pub terms : Signed (length s) ps ss
  -- a row's sum fits the machine's word
  pub few : length ps < 2 ^ 16

-- ---- what the sums ask of one coefficient

-- b taken from the residue a modulo q
pub record Taken (q a b : ℕ) : Type 0 where
  -- a + q fits the machine's word
  pub small : q < 2 ^ 31
  pub residue : a < q
  -- one q brings the difference back
  pub near : b ≤ q

-- x, of either sign, added to or taken from the residue v modulo q
pub record Added (q v : ℕ) (x : ℤ) : Type 0 where
  -- v + |x| and −x fit the machine's word
  pub small : q < 2 ^ 31
  pub residue : v < q
  -- one q brings the sum back
  pub near : nat_abs x ≤ q

-- ---- what the sums ask of their lists

-- signed bytes and the place for their residues modulo q: for `residues_of_bytes`
pub record Bytes (q : ℕ) (s out : List ℕ) : Type 0 where
  -- for each `Added`: a signed byte is from −q to q
  pub small : q < 2 ^ 31
  pub above : 128 ≤ q
  pub long : length s ≡ length out

-- residues t modulo q and signed bytes: for `add_bytes`
pub record WithBytes (q : ℕ) (t e : List ℕ) : Type 0 where
  pub bytes : Bytes q e t
  pub below : Below q t

-- numbers from −q to q and the place for their residues modulo q: for `residues_of`
pub record Small (q : ℕ) (zs : List ℤ) (out : List ℕ) : Type 0 where
  -- for each `Added`, where the residue is 0 in `residues_of`
  pub small : q < 2 ^ 31
  pub some : 0 < q
  pub within : Within q zs
  pub long : length zs ≡ length out

-- residues v modulo q and numbers from −q to q: for `subtract_small`
pub record WithSmall (q : ℕ) (v : List ℕ) (x : List ℤ) : Type 0 where
  pub numbers : Small q x v
  pub below : Below q v

-- two lists of residues modulo q: for `subtract`
pub record TwoResidues (q : ℕ) (a b : List ℕ) : Type 0 where
  -- all three for each `Taken`
  pub small : q < 2 ^ 31
  pub a_below : Below q a
  pub b_below : Below q b
  pub long : length b ≡ length a

-- two lists of numbers whose sums fit the machine's word: for `add_exact`
pub record Summands (y x : List ℤ) : Type 0 where
  pub y_within : Within (2 ^ 29) y
  pub x_within : Within (2 ^ 29) x
  pub long : length x ≡ length y
