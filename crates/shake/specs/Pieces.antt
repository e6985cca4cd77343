-- Absorbing and squeezing in pieces, from any state:
--     absorbed_absorbed       absorbing xs and then ys is absorbing xs ++ ys
--     squeezed_add            squeezing m + n bytes is squeezing m and then n
--     length_squeezed         n squeezed bytes are n
--     below_squeezed          each of them is below 256
--     absorb_pieces_lem       absorbing several pieces is absorbing their concatenation
--     squeeze_pieces_lem      squeezing several pieces is squeezing as many bytes as they have together
-- Assumes nothing.
use Rattle.std.specs.Prelude.{Bool, true, false, cond, ◌≡◌, refl, ℕ, zero, suc, ◌+◌, ◌<◌, eqb, ltb, length}
use mathlib.Core.List.{List, [], ◌∷◌, ◌++◌, flatten, sum, append-nil, append_assoc}
use Rattle.std.proofs.Common.{sym, ap, ◌∙◌, mod-lt, zero-lt-suc, zero-add, suc-add, not-suc-le-zero, arith, lit<, ltb-true, lt-ltb}
use Rattle.std.proofs.lemmas.Bool.{eqb-false}
use Rattle.whole.specs.Below.{Below}
use Rattle.whole.specs.BelowLaws.{below_cons}
use Rattle.keccak.specs.Steps.{keccak_f}
use Rattle.shake.specs.declared.Sponge.{Sponge}
use Rattle.shake.specs.Sponge.{rate, byte_at, blank, passed, absorbable, absorb_byte, absorb_all, absorbed, ended, squeezable, squeeze_next, bytes_of, state_after, squeezed, after_squeeze}

-- the place is one of the block's, and the sponge squeezes (true) or absorbs (false)
pub record Sound (squeezing : Bool) (s : Sponge) : Type 0 where
  pub phase : s.squeezing ≡ squeezing
  pub within : s.place < rate

pub sound_passed : (lanes : List ℕ) (p : ℕ) (t : Bool) → p < rate → Sound t (passed lanes p t)
unfolding passed
sound_passed lanes p t h = go (eqb (p + 1) rate) refl
  where
    full : Sponge
    full = record { lanes = keccak_f lanes; place = 0; squeezing = t }

    more : Sponge
    more = record { lanes = lanes; place = p + 1; squeezing = t }

    go : (u : Bool) → eqb (p + 1) rate ≡ u → Sound t (cond u full more)
    go true e = record { phase = refl; within = lit< tt }
    go false e = record { phase = refl; within = omega (arith, eqb-false (p + 1) rate e) }

pub sound_blank : Sound false blank
unfolding blank
sound_blank = record { phase = refl; within = lit< tt }

-- ---- absorbing

pub sound_absorbable : (s : Sponge) → Sound false (absorbable s)
unfolding absorbable
sound_absorbable s = go s.squeezing refl (ltb s.place rate) refl
  where
    go : (t : Bool) → s.squeezing ≡ t → (u : Bool) → ltb s.place rate ≡ u → Sound false (cond t blank (cond u s blank))
    go true e u f = sound_blank
    go false e true f = record { phase = e; within = ltb-true s.place rate f }
    go false e false f = sound_blank

pub sound_absorb_all : (s : Sponge) (bs : List ℕ) → Sound false s → Sound false (absorb_all s bs)
unfolding absorb_all absorb_byte
sound_absorb_all s [] h = h
sound_absorb_all s (b ∷ bs) h = sound_absorb_all (absorb_byte s b) bs (sound_passed _ s.place false h.within)

-- an absorbing state is absorbed into as it is
pub absorbable_is : (s : Sponge) → Sound false s → absorbable s ≡ s
unfolding absorbable
absorbable_is s h = rw (h.phase, lt-ltb s.place rate h.within)

pub absorb_all_append : (s : Sponge) (xs ys : List ℕ) → absorb_all (absorb_all s xs) ys ≡ absorb_all s (xs ++ ys)
unfolding absorb_all
absorb_all_append s [] ys = refl
absorb_all_append s (x ∷ xs) ys = absorb_all_append (absorb_byte s x) xs ys

pub absorbed_absorbed : (s : Sponge) (xs ys : List ℕ) → absorbed (absorbed s xs) ys ≡ absorbed s (xs ++ ys)
unfolding absorbed
absorbed_absorbed s xs ys =
    ap (λ (t : Sponge). absorb_all t ys) (absorbable_is (absorb_all (absorbable s) xs) (sound_absorb_all (absorbable s) xs (sound_absorbable s)))
    ∙ absorb_all_append (absorbable s) xs ys

-- ---- squeezing

sound_ended : (s : Sponge) → Sound true (ended s)
unfolding ended
sound_ended s = record { phase = refl; within = lit< tt }

pub sound_squeezable : (s : Sponge) → Sound true (squeezable s)
unfolding squeezable
sound_squeezable s = go (ltb s.place rate) refl s.squeezing refl
  where
    go : (u : Bool) → ltb s.place rate ≡ u → (t : Bool) → s.squeezing ≡ t → Sound true (cond u (cond t s (ended s)) (ended blank))
    go true f true e = record { phase = e; within = ltb-true s.place rate f }
    go true f false e = sound_ended s
    go false f t e = sound_ended blank

-- a squeezing state is squeezed from as it is
pub squeezable_is : (s : Sponge) → Sound true s → squeezable s ≡ s
unfolding squeezable
squeezable_is s h = rw (h.phase, lt-ltb s.place rate h.within)

-- an absorbing one once absorbing has ended
pub squeezable_ended : (s : Sponge) → Sound false s → squeezable s ≡ ended s
unfolding squeezable
squeezable_ended s h = rw (lt-ltb s.place rate h.within, h.phase)

pub sound_after : (n : ℕ) (s : Sponge) → Sound true s → Sound true (state_after n s)
unfolding state_after squeeze_next
sound_after zero s h = h
sound_after (suc n) s h = sound_after n (squeeze_next s) (sound_passed _ s.place true h.within)

pub bytes_of_add : (m n : ℕ) (s : Sponge) → bytes_of (m + n) s ≡ bytes_of m s ++ bytes_of n (state_after m s)
unfolding bytes_of state_after
bytes_of_add zero n s = rw zero-add
bytes_of_add (suc m) n s = rw suc-add (ap (λ (l : List ℕ). byte_at s.lanes s.place ∷ l) (bytes_of_add m n (squeeze_next s)))

again : (m : ℕ) (s : Sponge) → squeezable (after_squeeze m s) ≡ state_after m (squeezable s)
unfolding after_squeeze
again m s = squeezable_is (state_after m (squeezable s)) (sound_after m (squeezable s) (sound_squeezable s))

pub squeezed_add : (m n : ℕ) (s : Sponge) → squeezed (m + n) s ≡ squeezed m s ++ squeezed n (after_squeeze m s)
unfolding squeezed
squeezed_add m n s = rw (again m s) (bytes_of_add m n (squeezable s))

pub length_bytes_of : (n : ℕ) (s : Sponge) → length (bytes_of n s) ≡ n
unfolding bytes_of
length_bytes_of zero s = refl
length_bytes_of (suc n) s = ap suc (length_bytes_of n (squeeze_next s))

pub length_squeezed : (n : ℕ) (s : Sponge) → length (squeezed n s) ≡ n
unfolding squeezed
length_squeezed n s = length_bytes_of n (squeezable s)

below_bytes_of : (n : ℕ) (s : Sponge) → Below 256 (bytes_of n s)
unfolding bytes_of byte_at
below_bytes_of zero s = record { at = λ i l. absurd (not-suc-le-zero l) }
below_bytes_of (suc n) s = below_cons (mod-lt _ (zero-lt-suc 255)) (below_bytes_of n (squeeze_next s))

pub below_squeezed : (n : ℕ) (s : Sponge) → Below 256 (squeezed n s)
unfolding squeezed
below_squeezed n s = below_bytes_of n (squeezable s)

-- ---- several pieces

-- the sponge that has absorbed each piece in turn
unfoldable pub absorb_pieces : Sponge → List (List ℕ) → Sponge
absorb_pieces s [] = s
absorb_pieces s (m ∷ ms) = absorb_pieces (absorbed s m) ms

-- the bytes of squeezes of each of these sizes in turn, in a row
unfoldable pub squeeze_pieces : List ℕ → Sponge → List ℕ
squeeze_pieces [] s = []
squeeze_pieces (n ∷ ns) s = squeezed n s ++ squeeze_pieces ns (after_squeeze n s)

pub absorb_pieces_lem : (s : Sponge) (m : List ℕ) (ms : List (List ℕ)) → absorb_pieces s (m ∷ ms) ≡ absorbed s (flatten (m ∷ ms))
unfolding absorb_pieces flatten
absorb_pieces_lem s m [] = rw (append-nil m)
absorb_pieces_lem s m (l ∷ ms) = rw (absorbed_absorbed s m l) (absorb_pieces_lem s (m ++ l) ms ∙ ap (absorbed s) (append_assoc m l (flatten ms)))

pub squeeze_pieces_lem : (ns : List ℕ) (s : Sponge) → squeeze_pieces ns s ≡ squeezed (sum ◌+◌ 0 ns) s
unfolding squeeze_pieces sum squeezed bytes_of
squeeze_pieces_lem [] s = refl
squeeze_pieces_lem (n ∷ ns) s =
    ap (λ (l : List ℕ). squeezed n s ++ l) (squeeze_pieces_lem ns (after_squeeze n s)) ∙ sym (squeezed_add n (sum ◌+◌ 0 ns) s)
