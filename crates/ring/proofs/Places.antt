-- What `largest` finds: a push that has gone past the first i places, the places when all bytes have been pushed in, and how much
-- they sum to. Assumes nothing.
use Rattle.std.proofs.Common.{◌≡◌, refl, sym, ap, ◌∙◌, List, [], ◌∷◌, ◌++◌, append-nil, reverse, ℕ, zero, suc, ◌+◌, ◌*◌, ◌^◌, ◌≤◌, ◌<◌, min, max, add-one, arith, length, get_or, take, drop, set, replicate, drop_of_length-le, take_all, sum, fold, lit<, nat_abs}
use mathlib.Core.List.{reverse-cons}
use Rattle.std.proofs.Math.ListN.{length-replicate, length-map, get_or-map}
use Rattle.std.proofs.Math.Seq.{set-get_or}
use Rattle.std.proofs.lemmas.List.Sums.{sum_by-cons, fold_push}
use Rattle.whole.specs.Below.{Below}
use Rattle.whole.specs.BelowLaws.{below_cons, below_tail, below_zeros}
use Rattle.whole.specs.Twos.{signed}
use Rattle.whole.specs.TwosLaws.{signed_size}
use Rattle.ring.specs.Largest.{push, places, added, sizes, Few}

-- ---- a push

push_at : (m i : ℕ) (ps : List ℕ) → i < length ps
    → take (suc i) (set ps i (max m (get_or ps i 0))) ++ push (min m (get_or ps i 0)) (drop (suc i) (set ps i (max m (get_or ps i 0)))) ≡ take i ps ++ push m (drop i ps)
unfolding push
push_at m i [] l = absurd (omega arith)
push_at m zero (p ∷ ps) l = refl
push_at m (suc i) (p ∷ ps) l = ap (λ (t : List ℕ). p ∷ t) (push_at m i ps (omega arith))

-- at place i the larger stays, and the smaller is still to be pushed into the places after it
pub pushed_more : (m i : ℕ) (ps : List ℕ) {v w : ℕ} → i < length ps → v ≡ max m (get_or ps i 0) → w ≡ min m (get_or ps i 0)
    → take (i + 1) (set ps i v) ++ push w (drop (i + 1) (set ps i v)) ≡ take i ps ++ push m (drop i ps)
pushed_more m i ps {v} {w} l e f = rw (add-one i, e, f) (push_at m i ps l)

-- and nothing moves where the larger is there already
pub pushed_past : (m i : ℕ) (ps : List ℕ) → i < length ps → m ≤ get_or ps i 0 → take (i + 1) ps ++ push m (drop (i + 1) ps) ≡ take i ps ++ push m (drop i ps)
pushed_past m i ps l h =
    ap (λ (t : List ℕ). take (i + 1) t ++ push m (drop (i + 1) t)) (sym (set-get_or ps i 0))
    ∙ pushed_more m i ps l (omega arith) (omega arith)

-- past the last place nothing is left to push into
pub pushed_all : (m i : ℕ) (ps : List ℕ) → length ps ≤ i → take i ps ++ push m (drop i ps) ≡ ps
unfolding push
pushed_all m i ps l = rw (take_all i ps l, drop_of_length-le ps l) (append-nil ps)

-- ---- a sum of places

pub added_is : (ps : List ℕ) → added ps ≡ sum ps
unfolding added
added_is [] = refl
added_is (p ∷ ps) = ap (λ (s : ℕ). p + s) (added_is ps) ∙ sym (sum_by-cons (λ (x : ℕ). x) p ps)

sum_small : (ps : List ℕ) → Below 129 ps → sum ps ≤ 128 * length ps
sum_small [] b = omega arith
sum_small (p ∷ ps) b = omega (arith, sum_by-cons (λ (x : ℕ). x) p ps, b.at 0 (omega arith), sum_small ps (below_tail b))

-- ---- all bytes pushed in

length_push : (x : ℕ) (ps : List ℕ) → length (push x ps) ≡ length ps
unfolding push
length_push x [] = refl
length_push x (p ∷ ps) = ap suc (length_push (min x p) ps)

length_places : (h : ℕ) (xs : List ℕ) → length (places h xs) ≡ h
unfolding places
length_places h [] = length-replicate h 0
length_places h (x ∷ xs) = length_push x (places h xs) ∙ length_places h xs

-- the last byte is pushed in first
pub places_back : (h : ℕ) (e : List ℕ) → fold (λ (ps : List ℕ) (b : ℕ). push (nat_abs (signed 8 b)) ps) (replicate h 0) (reverse e) ≡ places h (sizes e)
unfolding places
places_back h [] = refl
places_back h (b ∷ e) =
    ap (fold (λ (ps : List ℕ) (x : ℕ). push (nat_abs (signed 8 x)) ps) (replicate h 0)) (reverse-cons b e)
    ∙ fold_push (λ (ps : List ℕ) (b : ℕ). push (nat_abs (signed 8 b)) ps) (replicate h 0) (reverse e) b
    ∙ ap (push (nat_abs (signed 8 b))) (places_back h e)

-- ---- how much a place holds

push_below : {m : ℕ} (x : ℕ) (ps : List ℕ) → x < m → Below m ps → Below m (push x ps)
unfolding push
push_below x [] h b = b
push_below x (p ∷ ps) h b =
    below_cons (omega (arith, b.at 0 (omega arith))) (push_below (min x p) ps (omega arith) (below_tail b))

places_below : {m : ℕ} (h : ℕ) (xs : List ℕ) → 0 < m → Below m xs → Below m (places h xs)
unfolding places
places_below h [] l b = below_zeros l h
places_below h (x ∷ xs) l b = push_below x (places h xs) (b.at 0 (omega arith)) (places_below h xs l (below_tail b))

sizes_below : (e : List ℕ) → Below 256 e → Below 129 (sizes e)
unfolding signed
sizes_below e b =
    record { at = λ i l. rw (get_or-map (λ (y : ℕ). nat_abs (signed 8 y)) e i 0) (omega (arith, signed_size (get_or e i 0) (b.at i (omega (arith, length-map e (λ (y : ℕ). nat_abs (signed 8 y))))))) }

-- few places sum to what fits the machine's word
pub places_fit : {ps e : List ℕ} → Few ps → Below 256 e → sum (places (length ps) (sizes e)) < 2 ^ 32
places_fit {ps} {e} f b = omega (arith, f.few, sum_small slots (places_below (length ps) (sizes e) (lit< tt) (sizes_below e b)), length_places (length ps) (sizes e))
  where
    slots : List ℕ
    slots = places (length ps) (sizes e)
