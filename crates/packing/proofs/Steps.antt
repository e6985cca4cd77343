-- The steps of packing and unpacking. Both turn digits of one width into digits of another: `acc` holds `have` bits, and above them stand
-- the digits vs, of w bits, that were not read yet. Packing reads values and takes out bytes, unpacking reads bytes and takes out values.
-- Assumes nothing.
use Rattle.std.proofs.Common.{◌≡◌, refl, sym, ap, ◌∙◌, ℕ, zero, suc, ◌+◌, ◌-◌, ◌*◌, ◌/◌, ◌%◌, ◌^◌, ◌≤◌, ◌<◌, List, [], ◌∷◌, ◌++◌, length, get_or, set, take, drop, drop-cons, length-set, Option, None, Some, Bor, Iter, arith, add-one, div-one, mul-zero, mul-suc, pow_pos, pow-add, zero-le, zero-lt-suc, shr-shr, add_comm}
use Rattle.std.proofs.Math.Arith.{digits_lt}
use Rattle.std.proofs.Math.Nat.{add-sub_of_le, sub-add_cancel, add-mul-mod_self_left, add-mul-div_left, lt_of_mul-lt-mul_left}
use Rattle.std.proofs.Math.Pow.{shr_lt}
use Rattle.std.proofs.lemmas.List.{length-take, nil_from_length, take_all, take_more_set}
use Rattle.std.specs.Option.{MatchOption, option_copied, unwrap_or}
use Rattle.whole.specs.Below.{Below}
use Rattle.whole.specs.BelowLaws.{below_tail}
use Rattle.packing.specs.Digits.{value, digits, bytes_for, packed, unpacked, Packs, Unpacks}

-- ---- what is left

pub left : ℕ → ℕ → ℕ → List ℕ → ℕ
left w acc have vs = acc + 2 ^ have * value w vs

-- one digit more
digits_more : (w n x : ℕ) → digits w (n + 1) x ≡ digits w n x ++ (x / 2 ^ (w * n) % 2 ^ w ∷ [])
unfolding digits
digits_more w n x = rw add-one (go n x)
  where
    go : (m y : ℕ) → digits w (suc m) y ≡ digits w m y ++ (y / 2 ^ (w * m) % 2 ^ w ∷ [])
    go zero y = rw (mul-zero, div-one)
    go (suc m) y = ap (λ r. y % 2 ^ w ∷ r) (go m (y / 2 ^ w) ∙ rw (shr-shr, mul-suc, add_comm (w * m) w))

-- u bits are taken out
module _ (w acc have u : ℕ) (vs : List ℕ) (h : u ≤ have) where
  parted : left w acc have vs ≡ acc + 2 ^ u * (2 ^ (have - u) * value w vs)
  unfolding left
  parted =
      let e : 2 ^ have ≡ 2 ^ u * 2 ^ (have - u) = ap (λ (k : ℕ). 2 ^ k) (sym (add-sub_of_le h)) ∙ pow-add 2 u (have - u) in
      rw e (omega arith)

  out_digit : acc % 2 ^ u ≡ left w acc have vs % 2 ^ u
  out_digit = rw (parted, add-mul-mod_self_left)

  out_rest : left w (acc / 2 ^ u) (have - u) vs ≡ left w acc have vs / 2 ^ u
  unfolding left
  out_rest = sym (ap (λ (t : ℕ). t / 2 ^ u) parted ∙ add-mul-div_left acc (2 ^ (have - u) * value w vs) (pow_pos u))

  out_below : acc < 2 ^ have → acc / 2 ^ u < 2 ^ (have - u)
  out_below l = shr_lt (have - u) u (rw sub-add_cancel l)

-- k digits of x, of u bits, stand at the front of out, and what is left is the rest of x
pub record Turning (w u x : ℕ) (vs out : List ℕ) (acc have k : ℕ) : Type 0 where
  pub below : Below (2 ^ w) vs
  pub bits : acc < 2 ^ have
  pub whole : left w acc have vs ≡ x / 2 ^ (u * k)
  pub done : take k out ≡ digits u k x

pub turning_none : (w u : ℕ) (vs out : List ℕ) → Below (2 ^ w) vs → Turning w u (value w vs) vs out 0 0 0
unfolding left digits
turning_none w u vs out b =
    record { below = b; bits = pow_pos 0; whole = rw (mul-zero, div-one) (omega arith); done = refl }

module _ {w u x acc have k : ℕ} {vs out : List ℕ} where
  -- a digit is read
  read : {v : ℕ} {us : List ℕ} → Turning w u x us out acc have k → value w us ≡ v + 2 ^ w * value w vs → v < 2 ^ w → Below (2 ^ w) vs
      → Turning w u x vs out (acc + 2 ^ have * v) (have + w) k
  unfolding left
  read t e l b =
      record {
        below = b;
        bits = rw pow-add (omega (arith, digits_lt l t.bits));
        whole = rw pow-add (omega (arith, t.whole, ap (λ n. 2 ^ have * n) e));
        done = t.done;
      }

  pub turning_read : {v : ℕ} → Turning w u x (v ∷ vs) out acc have k → Turning w u x vs out (acc + 2 ^ have * v) (have + w) k
  unfolding value
  turning_read t = read t refl (t.below.at 0 (zero-lt-suc _)) (below_tail t.below)

  -- a digit is written
  pub turning_write : {v : ℕ} → Turning w u x vs out acc have k → u ≤ have → k < length out → v ≡ acc % 2 ^ u
      → Turning w u x vs (set out k v) (acc / 2 ^ u) (have - u) (k + 1)
  turning_write {v} t l i e =
      record {
        below = t.below;
        bits = out_below w acc have u vs l t.bits;
        whole = out_rest w acc have u vs l ∙ ap (λ n. n / 2 ^ u) t.whole ∙ shr-shr x (u * k) u ∙ ap (λ n. x / 2 ^ n) (omega arith);
        done = take_more_set out k v i ∙ rw (t.done, digits_more, e, out_digit w acc have u vs l, t.whole);
      }

-- past the last digit come zeros
pub turning_past : {w u x acc have k : ℕ} {out : List ℕ} → Turning w u x [] out acc have k → Turning w u x [] out (acc + 2 ^ have * 0) (have + w) k
unfolding value
turning_past t = read t (omega arith) (pow_pos _) t.below

-- ---- packing

-- what the iterator over the values gives, or zeros where there is none left
module _ {b x acc have k more : ℕ} {out : List ℕ} where
  pub packing_read : (s t : Iter ℕ) (r : Option (Bor ℕ))
      → MatchOption r ((length s.rest.now ≡ 0) × (t ≡ s)) (λ v. s.rest.now ≡ v.now ∷ t.rest.now) → Turning b 8 x s.rest.now out acc have k
      → more ≡ acc + 2 ^ have * unwrap_or (option_copied r) 0 → Turning b 8 x t.rest.now out more (have + b) k
  packing_read s t None h p e =
      let n = nil_from_length s.rest.now h.0 in
      rw (e, h.1, n) (turning_past (rw n at p))
  packing_read s t (Some v) h p e = rw e (turning_read (rw h at p))

-- every byte is written
pub packing_all : {b acc have k len : ℕ} {rest : List ℕ} (vals out items : List ℕ) → Packs b vals out → Turning b 8 (value b vals) rest items acc have k
    → len ≡ bytes_for b (length vals) → length items ≡ length (take len out) → length items ≤ k → k ≤ length items
    → items ++ drop len out ≡ packed b vals ++ drop (bytes_for b (length vals)) out
unfolding packed
packing_all {b} {k = k} {len} vals out items p t e l m n =
    let long : length items ≡ bytes_for b (length vals) = omega (arith, p.room, length-take len out) in
    let all : items ≡ digits 8 (bytes_for b (length vals)) (value b vals) =
    sym (take_all k items m) ∙ t.done ∙ ap (λ i. digits 8 i (value b vals)) (omega arith) in
    rw (all, e)

-- ---- unpacking

-- k bytes are read, and `at` values stored
pub record Unpacking (b : ℕ) (src out : List ℕ) (acc have at k : ℕ) : Type 0 where
  pub placed : at ≤ length out
  pub count : 8 * k ≡ b * at + have
  pub left : Turning 8 b (value 8 src) (drop k src) out acc have at

pub unpacking_none : (b : ℕ) (src out : List ℕ) → Below 256 src → Unpacking b src out 0 0 0 0
unpacking_none b src out h = record { placed = zero-le; count = omega arith; left = turning_none 8 b src out h }

module _ {b acc have at k : ℕ} {src out : List ℕ} (s : Unpacking b src out acc have at k) where
  pub unpacking_read : {more : ℕ} → k < length src → more ≡ acc + 2 ^ have * get_or src k 0 → Unpacking b src out more (have + 8) at (k + 1)
  unpacking_read l e =
      rw e
      (record {
        placed = s.placed;
        count = omega (arith, s.count);
        left = rw add-one (turning_read (rw (drop-cons src k 0 l) at s.left));
      })

  pub unpacking_store : {v : ℕ} → at < length out → b ≤ have → v ≡ acc % 2 ^ b → Unpacking b src (set out at v) (acc / 2 ^ b) (have - b) (at + 1) k
  unpacking_store {v} i h e =
      record {
        placed = omega (arith, length-set out at v);
        count = omega (arith, s.count);
        left = turning_write s.left h i e;
      }

  module _ {old : List ℕ} (u : Unpacks b src old) (same : length out ≡ length old) where
    -- the bytes hold no value more than there are places
    pub unpacking_room : k ≤ length src → b ≤ have → at < length out
    unpacking_room l h =
        let m : b * (at + 1) < b * (length old + 1) = omega (arith, s.count, u.exact, u.wide) in
        omega (arith, lt_of_mul-lt-mul_left b m)

    -- and all of these
    pub unpacking_all : length src ≤ k → have < b → out ≡ unpacked b (length old) src
    unfolding unpacked
    unpacking_all l h =
        let m : b * length old < b * (at + 1) = omega (arith, s.count, u.exact) in
        let n : at ≡ length old = omega (arith, lt_of_mul-lt-mul_left b m, s.placed) in
        sym (take_all at out (omega arith)) ∙ s.left.done ∙ ap (λ i. digits b i (value 8 src)) n
