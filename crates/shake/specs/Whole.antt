-- The byte-wise sponge computes SHAKE256 as FIPS 202 writes it:
--     absorbed_block   136 bytes absorbed from place 0 are the block added to the state, and the permutation
--     shake            n bytes squeezed after a message was absorbed from the blank sponge are the first n of SHAKE256 of it
--     pieces           and so they are where the message is absorbed, and the bytes squeezed, in any pieces
-- Assumes nothing.
use Rattle.std.specs.Prelude.{Bool, true, false, cond, ◌≡◌, refl, ℕ, zero, suc, ◌+◌, ◌-◌, ◌*◌, ◌/◌, ◌%◌, ◌^◌, ◌≤◌, ◌<◌, eqb, length, get_or, take, drop, replicate}
use mathlib.Core.List.{List, [], ◌∷◌, ◌++◌, flatten, sum}
use Rattle.std.proofs.Common.{sym, ap, ap₂, subst, ◌∙◌, add-zero, add-suc, zero-add, suc-add, zero-mul, mod-lt, zero-lt-suc, le_of_suc-le-suc, not-suc-le-zero, mul-lt-mul_of_pos_right, add-one, arith, lit<, length-append, length-set, length-take, length-drop, take-append-drop, pow-add, pow_pos, set-set, get_or-set_same, get_or-drop, take_all, eqb-true, ne_eqb}
use Rattle.std.specs.Int.Bits.{bit_xor, xor_zero_r}
use Rattle.std.proofs.lemmas.List.{length-replicate, set-get_or, take-append-le, drop-append-le}
use Rattle.std.proofs.lemmas.Bool.{eqb-false}
use Rattle.whole.specs.Below.{Below}
use Rattle.whole.specs.BelowLaws.{below_tail, below_append, below_cons, below_take, below_drop, below_none, below_zeros}
use Rattle.whole.specs.Bits.{xor_assoc, xor_parts}
use Rattle.whole.specs.Table.{row}
use Rattle.whole.specs.TableLaws.{table_is}
use Rattle.keccak.specs.Steps.{keccak_f}
use Rattle.keccak.proofs.Rounds.{length_keccak_f}
use Rattle.shake.specs.declared.Sponge.{Sponge}
use Rattle.shake.specs.Sponge.{rate, xor_at, blank, passed, absorbable, absorb_byte, absorb_all, absorbed, ended, squeezable, squeeze_next, bytes_of, squeezed}
use Rattle.shake.specs.Shake256.{padded, lane_of, add_block, absorb_blocks, permuted, output_byte, shake256}
use Rattle.shake.specs.Pieces.{absorb_all_append, sound_absorbable, sound_absorb_all, squeezable_ended, absorb_pieces, squeeze_pieces, absorb_pieces_lem, squeeze_pieces_lem}

-- ---- bytes added to the state

-- the bytes bs added at the places from p on
add_bytes : List ℕ → ℕ → List ℕ → List ℕ
add_bytes lanes p [] = lanes
add_bytes lanes p (b ∷ bs) = add_bytes (xor_at lanes p b) (suc p) bs

length_xor_at : (lanes : List ℕ) (p b : ℕ) → length (xor_at lanes p b) ≡ length lanes
unfolding xor_at
length_xor_at lanes p b = length-set lanes _ _

length_add_bytes : (lanes : List ℕ) (p : ℕ) (bs : List ℕ) → length (add_bytes lanes p bs) ≡ length lanes
unfolding add_bytes
length_add_bytes lanes p [] = refl
length_add_bytes lanes p (b ∷ bs) = length_add_bytes (xor_at lanes p b) (suc p) bs ∙ length_xor_at lanes p b

add_bytes_append : (lanes : List ℕ) (p : ℕ) (xs ys : List ℕ) → add_bytes lanes p (xs ++ ys) ≡ add_bytes (add_bytes lanes p xs) (p + length xs) ys
unfolding add_bytes
add_bytes_append lanes p [] ys = rw add-zero
add_bytes_append lanes p (x ∷ xs) ys = rw (add-suc p (length xs), ← suc-add p (length xs)) (add_bytes_append (xor_at lanes p x) (suc p) xs ys)

-- a place of the first lane, and one of the lanes after it
xor_at_first : (x : ℕ) (lanes : List ℕ) (p b : ℕ) → p < 8 → xor_at (x ∷ lanes) p b ≡ bit_xor x (b * 2 ^ (8 * p)) ∷ lanes
unfolding xor_at
xor_at_first x lanes p b h = rw (lane, place)
  where
    lane : p / 8 ≡ 0
    lane = omega arith

    place : p % 8 ≡ p
    place = omega arith

xor_at_next : (x : ℕ) (lanes : List ℕ) (p b : ℕ) → xor_at (x ∷ lanes) (8 + p) b ≡ x ∷ xor_at lanes p b
unfolding xor_at
xor_at_next x lanes p b = rw (lane, place)
  where
    lane : (8 + p) / 8 ≡ suc (p / 8)
    lane = omega arith

    place : (8 + p) % 8 ≡ p % 8
    place = omega arith

add_bytes_next : (x : ℕ) (lanes : List ℕ) (p : ℕ) (bs : List ℕ) → add_bytes (x ∷ lanes) (8 + p) bs ≡ x ∷ add_bytes lanes p bs
unfolding add_bytes
add_bytes_next x lanes p [] = refl
add_bytes_next x lanes p (b ∷ bs) = rw (xor_at_next x lanes p b, ← add-suc 8 p) (add_bytes_next x (xor_at lanes p b) (suc p) bs)

-- ---- a lane

-- the number of the n bytes of bs from place j on, lowest first; 0 past the end
number : ℕ → ℕ → List ℕ → ℕ
number zero j bs = 0
number (suc n) j bs = get_or bs j 0 + 2 ^ 8 * number n (suc j) bs

number_none : (n j : ℕ) → number n j [] ≡ 0
unfolding number
number_none zero j = refl
number_none (suc n) j = rw (number_none n (suc j))

number_tail : (n j b : ℕ) (bs : List ℕ) → number n (suc j) (b ∷ bs) ≡ number n j bs
unfolding number
number_tail zero j b bs = refl
number_tail (suc n) j b bs = rw (number_tail n (suc j) b bs)

-- n more bytes fill the first lane, and those after them go to the other lanes
fill : (n p x : ℕ) (lanes bs : List ℕ) → n + p ≡ 8 → Below 256 bs
    → add_bytes (x ∷ lanes) p bs ≡ bit_xor x (number n 0 bs * 2 ^ (8 * p)) ∷ add_bytes lanes 0 (drop n bs)
unfolding number add_bytes
fill zero p x lanes bs e h = rw (full, zero-mul, xor_zero_r) (add_bytes_next x lanes 0 bs)
  where
    full : p ≡ 8
    full = omega arith
fill (suc n) p x lanes [] e h = rw (number_none n 1, zero-mul, xor_zero_r)
fill (suc n) p x lanes (b ∷ bs) e h =
    rw (xor_at_first x lanes p b (omega arith), number_tail n 0 b bs)
    (fill n (suc p) (bit_xor x (b * 2 ^ (8 * p))) lanes bs (omega arith) (below_tail h)
    ∙ ap (λ (y : ℕ). y ∷ add_bytes lanes 0 (drop n bs)) (xor_parts x (b * 2 ^ (8 * p)) (number n 0 bs) (8 * suc p) low ∙ ap (bit_xor x) both))
  where
    more : 8 * suc p ≡ 8 + 8 * p
    more = omega arith

    power : 2 ^ (8 * suc p) ≡ 2 ^ 8 * 2 ^ (8 * p)
    power = ap (λ (k : ℕ). 2 ^ k) more ∙ pow-add 2 8 (8 * p)

    low : b * 2 ^ (8 * p) < 2 ^ (8 * suc p)
    low = rw power (mul-lt-mul_of_pos_right (h.at 0 (omega arith)) (pow_pos (8 * p)))

    both : b * 2 ^ (8 * p) + number n 0 bs * 2 ^ (8 * suc p) ≡ (b + 2 ^ 8 * number n 0 bs) * 2 ^ (8 * p)
    both = rw power (omega arith)

lane_of_first : (bs : List ℕ) → number 8 0 bs * 2 ^ (8 * 0) ≡ lane_of bs 0
unfolding number lane_of
lane_of_first bs = omega arith

lane_of_next : (bs : List ℕ) (i : ℕ) → lane_of (drop 8 bs) i ≡ lane_of bs (suc i)
unfolding lane_of
lane_of_next bs i = rw (first, later 1, later 2, later 3, later 4, later 5, later 6, later 7)
  where
    first : get_or (drop 8 bs) (8 * i) 0 ≡ get_or bs (8 * suc i) 0
    first = get_or-drop 8 bs (8 * i) 0 ∙ ap (λ (j : ℕ). get_or bs j 0) (omega arith)

    later : (k : ℕ) → get_or (drop 8 bs) (8 * i + k) 0 ≡ get_or bs (8 * suc i + k) 0
    later k = get_or-drop 8 bs (8 * i + k) 0 ∙ ap (λ (j : ℕ). get_or bs j 0) (omega arith)

add_bytes_lane : (lanes bs : List ℕ) → Below 256 bs → (i : ℕ) → i < length lanes
    → get_or (add_bytes lanes 0 bs) i 0 ≡ bit_xor (get_or lanes i 0) (lane_of bs i)
add_bytes_lane [] bs h i l = absurd (not-suc-le-zero l)
add_bytes_lane (x ∷ lanes) bs h zero l = rw (fill 8 0 x lanes bs refl h, lane_of_first bs)
add_bytes_lane (x ∷ lanes) bs h (suc i) l =
    rw (fill 8 0 x lanes bs refl h, ← lane_of_next bs i) (add_bytes_lane lanes (drop 8 bs) (below_drop 256 8 bs h) i (le_of_suc-le-suc l))

-- a block added byte by byte
add_bytes_block : (lanes bs : List ℕ) → length lanes ≡ 25 → Below 256 bs → add_bytes lanes 0 bs ≡ add_block lanes bs
unfolding add_block
add_bytes_block lanes bs e h =
    table_is 25 (λ i. bit_xor (get_or lanes i 0) (lane_of bs i)) 0 (add_bytes lanes 0 bs) (length_add_bytes lanes 0 bs ∙ e)
    (λ i l. add_bytes_lane lanes bs h i (omega arith))

-- ---- absorbing into a block

-- the sponge that absorbs at place p
abbrev pub absorbing : List ℕ → ℕ → Sponge
absorbing lanes p = record { lanes = lanes; place = p; squeezing = false }

-- the absorbing sponge with p bytes of its block, to which the permutation is applied if that is all of them
settled : List ℕ → ℕ → Sponge
settled lanes p = cond (eqb p rate) (absorbing (keccak_f lanes) 0) (absorbing lanes p)

settled_part : (lanes : List ℕ) (p : ℕ) → p < rate → settled lanes p ≡ absorbing lanes p
unfolding settled
settled_part lanes p h = rw (ne_eqb p rate (λ e. omega arith))

absorb_byte_lem : (lanes : List ℕ) (p b : ℕ) → p < rate → absorb_byte (settled lanes p) b ≡ settled (xor_at lanes p b) (suc p)
unfolding absorb_byte passed settled
absorb_byte_lem lanes p b h = rw (settled_part lanes p h, add-one)

absorb_bytes : (lanes : List ℕ) (p : ℕ) (bs : List ℕ) → p + length bs ≤ rate
    → absorb_all (settled lanes p) bs ≡ settled (add_bytes lanes p bs) (p + length bs)
unfolding absorb_all add_bytes
absorb_bytes lanes p [] h = rw add-zero
absorb_bytes lanes p (b ∷ bs) h =
    ap (λ (s : Sponge). absorb_all s bs) (absorb_byte_lem lanes p b (omega arith))
    ∙ absorb_bytes (xor_at lanes p b) (suc p) bs (omega arith)
    ∙ rw (suc-add p (length bs), ← add-suc p (length bs))

-- fewer bytes than a block
absorbed_part : (lanes bs : List ℕ) → length bs < rate → absorb_all (absorbing lanes 0) bs ≡ absorbing (add_bytes lanes 0 bs) (length bs)
unfolding settled
absorbed_part lanes bs h =
    absorb_bytes lanes 0 bs (omega arith) ∙ rw (zero-add (length bs)) (settled_part (add_bytes lanes 0 bs) (length bs) h)

pub absorbed_block : (lanes bs : List ℕ) → length lanes ≡ 25 → length bs ≡ rate → Below 256 bs
    → absorb_all (absorbing lanes 0) bs ≡ absorbing (keccak_f (add_block lanes bs)) 0
unfolding settled
absorbed_block lanes bs e f h =
    absorb_bytes lanes 0 bs (omega arith) ∙ rw (zero-add (length bs), f, add_bytes_block lanes bs e h)

-- ---- the padding

-- what is put after a message whose last block has r bytes
padding : ℕ → List ℕ
padding r = cond (eqb r 135) (0x9F ∷ []) (0x1F ∷ (replicate (134 - r) 0 ++ (0x80 ∷ [])))

padded_is : (message : List ℕ) → padded message ≡ message ++ padding (length message % rate)
unfolding padded padding
padded_is message = go (eqb (length message % rate) 135)
  where
    pad : List ℕ
    pad = 0x1F ∷ (replicate (134 - length message % rate) 0 ++ (0x80 ∷ []))

    go : (t : Bool) → cond t (message ++ (0x9F ∷ [])) (message ++ pad) ≡ message ++ cond t (0x9F ∷ []) pad
    go true = refl
    go false = refl

-- its two cases: one byte is left of the block, or two and n zeros between them
padding_cases : (P : ℕ → List ℕ → Type 0) → P 135 (0x9F ∷ []) → ((r n : ℕ) → r + n ≡ 134 → P r (0x1F ∷ (replicate n 0 ++ (0x80 ∷ []))))
    → (r : ℕ) → r < rate → P r (padding r)
unfolding padding
padding_cases P one more r h = go (eqb r 135) refl
  where
    go : (t : Bool) → eqb r 135 ≡ t → P r (cond t (0x9F ∷ []) (0x1F ∷ (replicate (134 - r) 0 ++ (0x80 ∷ []))))
    go true e = subst (λ (k : ℕ). P k (0x9F ∷ [])) (sym (eqb-true r 135 e)) one
    go false e = more r (134 - r) (omega (arith, eqb-false r 135 e))

length_zeros : (n : ℕ) → length (replicate {A = ℕ} n 0) ≡ n
length_zeros n = length-replicate n 0

-- it fills the block
length_padding : (r : ℕ) → r < rate → r + length (padding r) ≡ rate
length_padding =
    padding_cases (λ r pad. r + length pad ≡ rate) refl
    (λ r n e. omega (arith, length-append (replicate {A = ℕ} n 0) (0x80 ∷ []), length_zeros n))

length_padded : (message : List ℕ) → length (padded message) ≡ rate * suc (length message / rate)
length_padded message =
    rw (padded_is message, length-append)
    (omega (arith, length_padding (length message % rate) (mod-lt (length message) (zero-lt-suc 135))))

below_padding : (r : ℕ) → r < rate → Below 256 (padding r)
below_padding =
    padding_cases (λ r pad. Below 256 pad) (below_cons (lit< tt) below_none)
    (λ r n e. below_cons (lit< tt) (below_append 256 (replicate n 0) (0x80 ∷ []) (below_zeros (lit< tt) n) (below_cons (lit< tt) below_none)))

-- a zero changes nothing
xor_at_zero : (lanes : List ℕ) (p : ℕ) → xor_at lanes p 0 ≡ lanes
unfolding xor_at
xor_at_zero lanes p = rw (zero-mul, xor_zero_r, set-get_or)

add_zeros : (lanes : List ℕ) (p n : ℕ) → add_bytes lanes p (replicate n 0) ≡ lanes
unfolding add_bytes
add_zeros lanes p zero = refl
add_zeros lanes p (suc n) = ap (λ (l : List ℕ). add_bytes l (suc p) (replicate n 0)) (xor_at_zero lanes p) ∙ add_zeros lanes (suc p) n

-- 1F and 80 at one place are 9F
xor_at_both : (lanes : List ℕ) → length lanes ≡ 25 → xor_at (xor_at lanes 135 0x1F) 135 0x80 ≡ xor_at lanes 135 0x9F
unfolding xor_at
xor_at_both lanes e = rw (get_or-set_same lanes 16 _ 0 (omega arith), set-set, xor_assoc)

-- what ends the absorbing is the padding, added
add_padding : (lanes : List ℕ) → length lanes ≡ 25 → (r : ℕ) → r < rate → xor_at (xor_at lanes r 0x1F) 135 0x80 ≡ add_bytes lanes r (padding r)
unfolding add_bytes
add_padding lanes e =
    padding_cases (λ r pad. xor_at (xor_at lanes r 0x1F) 135 0x80 ≡ add_bytes lanes r pad) (xor_at_both lanes e)
    (λ r n f. sym (add_bytes_append (xor_at lanes r 0x1F) (suc r) (replicate n 0) (0x80 ∷ []) ∙ ap₂ (λ (l : List ℕ) (p : ℕ). xor_at l p 0x80) (add_zeros (xor_at lanes r 0x1F) (suc r) n) (last r n f)))
  where
    last : (r n : ℕ) → r + n ≡ 134 → suc r + length (replicate {A = ℕ} n 0) ≡ 135
    last r n f = omega (arith, length_zeros n)

-- ---- the blocks of the message

-- the sponge that has squeezed nothing yet
abbrev opened : List ℕ → Sponge
opened lanes = record { lanes = lanes; place = 0; squeezing = true }

last_block : (lanes message : List ℕ) → length lanes ≡ 25 → length message < rate → Below 256 message
    → ended (absorb_all (absorbing lanes 0) message) ≡ opened (absorb_blocks 1 lanes (padded message))
unfolding ended absorb_blocks
last_block lanes message e h b = rw (absorbed_part lanes message h) (ap (λ (l : List ℕ). opened (keccak_f l)) added)
  where
    r : ℕ
    r = length message

    only : length message % rate ≡ r
    only = omega arith

    block : take rate (padded message) ≡ message ++ padding r
    block = take_all rate (padded message) (omega (arith, length_padded message)) ∙ padded_is message ∙ rw only

    added : xor_at (xor_at (add_bytes lanes 0 message) r 0x1F) 135 0x80 ≡ add_block lanes (take rate (padded message))
    added =
        add_padding (add_bytes lanes 0 message) (length_add_bytes lanes 0 message ∙ e) r h
        ∙ rw (zero-add r) at (sym (add_bytes_append lanes 0 message (padding r)))
        ∙ add_bytes_block lanes (message ++ padding r) e (below_append 256 message (padding r) b (below_padding r h))
        ∙ rw block

-- a message of n whole blocks and a last one that is not
blocks : (n : ℕ) (lanes message : List ℕ) → length lanes ≡ 25 → length message / rate ≡ n → Below 256 message
    → ended (absorb_all (absorbing lanes 0) message) ≡ opened (absorb_blocks (suc n) lanes (padded message))
unfolding absorb_blocks
blocks zero lanes message e h b = last_block lanes message e (omega arith) b
blocks (suc n) lanes message e h b =
    ap ended first
    ∙ blocks n after rest (length_keccak_f (add_block lanes block)) (omega (arith, length-drop rate message)) (below_drop 256 rate message b)
    ∙ rw (padded_block, padded_rest)
  where
    block : List ℕ
    block = take rate message

    rest : List ℕ
    rest = drop rate message

    after : List ℕ
    after = keccak_f (add_block lanes block)

    full : length block ≡ rate
    full = length-take rate message ∙ omega arith

    first : absorb_all (absorbing lanes 0) message ≡ absorb_all (absorbing after 0) rest
    first =
        ap (absorb_all (absorbing lanes 0)) (sym (take-append-drop rate message))
        ∙ sym (absorb_all_append (absorbing lanes 0) block rest)
        ∙ ap (λ (s : Sponge). absorb_all s rest) (absorbed_block lanes block e full (below_take 256 rate message b))

    same : length message % rate ≡ length rest % rate
    same = omega (arith, length-drop rate message)

    padded_block : take rate (padded message) ≡ block
    padded_block = ap (take rate) (padded_is message) ∙ take-append-le rate message (padding (length message % rate)) (omega arith)

    padded_rest : drop rate (padded message) ≡ padded rest
    padded_rest =
        ap (drop rate) (padded_is message) ∙ drop-append-le rate message (padding (length message % rate)) (omega arith)
        ∙ ap (λ (r : ℕ). rest ++ padding r) same
        ∙ sym (padded_is rest)

absorbed_whole : (message : List ℕ) → Below 256 message
    → squeezable (absorbed blank message) ≡ opened (absorb_blocks (length (padded message) / rate) (replicate 25 0) (padded message))
unfolding absorbed absorbable blank
absorbed_whole message b =
    squeezable_ended (absorbed blank message) (sound_absorb_all blank message (sound_absorbable blank))
    ∙ blocks (length message / rate) (replicate 25 0) message refl refl b
    ∙ ap (λ (n : ℕ). opened (absorb_blocks n (replicate 25 0) (padded message))) (omega (arith, length_padded message))

-- ---- squeezing

permuted_last : (n : ℕ) (lanes : List ℕ) → permuted (suc n) lanes ≡ keccak_f (permuted n lanes)
unfolding permuted
permuted_last zero lanes = refl
permuted_last (suc n) lanes = permuted_last n (keccak_f lanes)

-- the sponge that squeezes byte p of the block after n permutations
abbrev squeezing_at : List ℕ → ℕ → ℕ → Sponge
squeezing_at lanes n p = record { lanes = permuted n lanes; place = p; squeezing = true }

-- byte j of the output is done with
next : (lanes : List ℕ) (j : ℕ) → squeeze_next (squeezing_at lanes (j / rate) (j % rate)) ≡ squeezing_at lanes (suc j / rate) (suc j % rate)
unfolding squeeze_next passed
next lanes j = go (eqb (j % rate + 1) rate) refl
  where
    full : Sponge
    full = record { lanes = keccak_f (permuted (j / rate) lanes); place = 0; squeezing = true }

    go : (t : Bool) → eqb (j % rate + 1) rate ≡ t
        → cond t full (squeezing_at lanes (j / rate) (j % rate + 1)) ≡ squeezing_at lanes (suc j / rate) (suc j % rate)
    go true e =
        rw (← permuted_last (j / rate) lanes)
        (ap₂ (squeezing_at lanes) (omega (arith, eqb-true (j % rate + 1) rate e)) (omega (arith, eqb-true (j % rate + 1) rate e)))
    go false e =
        ap₂ (squeezing_at lanes) (omega (arith, eqb-false (j % rate + 1) rate e)) (omega (arith, eqb-false (j % rate + 1) rate e))

-- n bytes of the output from byte j on
output : (lanes : List ℕ) (n j : ℕ) → bytes_of n (squeezing_at lanes (j / rate) (j % rate)) ≡ row j n (output_byte lanes)
unfolding bytes_of row output_byte
output lanes zero j = refl
output lanes (suc n) j = ap (λ (l : List ℕ). output_byte lanes j ∷ l) (ap (bytes_of n) (next lanes j) ∙ output lanes n (suc j))

-- ---- the whole

pub shake : (message : List ℕ) (n : ℕ) → Below 256 message → squeezed n (absorbed blank message) ≡ shake256 message n
unfolding squeezed shake256 permuted
shake message n b = ap (bytes_of n) (absorbed_whole message b) ∙ output _ n 0

absorb_all_lem : (ms : List (List ℕ)) → absorb_pieces blank ms ≡ absorbed blank (flatten ms)
unfolding absorb_pieces flatten absorbed absorbable absorb_all blank
absorb_all_lem [] = refl
absorb_all_lem (m ∷ ms) = absorb_pieces_lem blank m ms

pub pieces : (ms : List (List ℕ)) (ns : List ℕ) → Below 256 (flatten ms)
    → squeeze_pieces ns (absorb_pieces blank ms) ≡ shake256 (flatten ms) (sum ◌+◌ 0 ns)
pieces ms ns b =
    squeeze_pieces_lem ns (absorb_pieces blank ms) ∙ ap (squeezed (sum ◌+◌ 0 ns)) (absorb_all_lem ms) ∙ shake (flatten ms) (sum ◌+◌ 0 ns) b
