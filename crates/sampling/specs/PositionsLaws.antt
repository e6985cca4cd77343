-- Laws of the candidate rule for positions with signs. `part_positions` is what is taken of one stretch of the candidates, where
-- `later` ones follow it.
--     part_positions_fresh, _repeated, _moved     what becomes of one candidate
--     part_positions_append                       a stretch in two parts
--     positions_part                              the positions of all candidates are the part with none after it
--     positions_inside, positions_signs           each below n, with the sign of a candidate
--     positions_distinct                          none comes twice
--     positions_append                            the positions of a stretch, then those of the candidates after it
--     drawn_length, drawn_at, drawn_inside, drawn_signs, drawn_append     the candidates of a stream
-- That they are as many as are needed: proofs/DrawnLengths. Assumes nothing.
use Rattle.std.specs.Prelude.{◌≡◌, refl, Bool, true, false, cond, not, ◌||◌, ◌⊎◌, List, [], ◌∷◌, ◌++◌, ℕ, zero, suc, ◌+◌, ◌-◌, ◌/◌, ◌%◌, ◌^◌, ◌≤◌, ◌<◌, ltb, eqb, ℤ, pos, negsuc, length, get_or}
use Rattle.std.proofs.Common.{sym, ap, ◌∙◌, inl, inr, append-nil, zero-le, suc-le-suc, le_refl, le_of_suc-le-suc, add-zero, add_assoc, mod-lt, not-suc-le-zero, arith, pow_pos, length-append, lt-ltb, le-ltb, ltb-false}
use Rattle.std.proofs.lemmas.Bool.{false≢true}
use Rattle.std.proofs.Math.Nat.{suc-sub-suc, sub-zero}
use Rattle.ring.specs.Sparse.{Sign}
use Rattle.whole.specs.Below.{Below}
use Rattle.whole.specs.BelowLaws.{below_cons, below_tail, below_table}
use Rattle.whole.specs.Table.{table}
use Rattle.whole.specs.TableLaws.{length_table, get_or_table, map_table}
use Rattle.sampling.specs.Candidates.{emit, held, piece}
use Rattle.sampling.specs.CandidatesLaws.{pieces_append}
use Rattle.sampling.specs.Positions.{Drawn, is_in, free, takes_position, positions, positions_of, signs_of, sign_of, drawn_of, drawn_candidates}
use Rattle.sampling.specs.Stretches.{placed, part_positions}
use Rattle.sampling.specs.FreeLaws.{Distinct, in_here, in_cases, in_moved, not_both, or_right, free_inside, free_is_free, free_here, free_same, distinct_none, distinct_cons}

-- ---- a stretch

pub part_positions_none : (n later : ℕ) (ps : List ℕ) (cs : List Drawn) → part_positions n 0 later ps cs ≡ []
unfolding part_positions
part_positions_none n later ps [] = refl
part_positions_none n later ps (c ∷ cs) = refl

-- a free position
pub part_positions_fresh : (n need later : ℕ) (ps : List ℕ) (c : Drawn) (cs : List Drawn) → is_in c.position ps ≡ false
    → part_positions n (suc need) later ps (c ∷ cs) ≡ c ∷ part_positions n need later (c.position ∷ ps) cs
unfolding part_positions emit
part_positions_fresh n need later ps c cs e = rw (e, free_here n n c.position ps e)

-- a taken one, with enough candidates after it
pub part_positions_repeated : (n need later : ℕ) (ps : List ℕ) (c : Drawn) (cs : List Drawn) → is_in c.position ps ≡ true
    → suc need ≤ length cs + later → part_positions n (suc need) later ps (c ∷ cs) ≡ part_positions n (suc need) later ps cs
unfolding part_positions emit
part_positions_repeated n need later ps c cs e l = rw (e, le-ltb (length cs + later) (suc need) l)

-- a taken one, with too few
pub part_positions_moved : (n need later : ℕ) (ps : List ℕ) (c : Drawn) (cs : List Drawn) → is_in c.position ps ≡ true
    → length cs + later < suc need
    → part_positions n (suc need) later ps (c ∷ cs) ≡ placed n ps c ∷ part_positions n need later (free n n c.position ps ∷ ps) cs
unfolding part_positions emit
part_positions_moved n need later ps c cs e l = rw (e, lt-ltb (length cs + later) (suc need) l)

pub part_positions_most : (n need later : ℕ) (ps : List ℕ) (cs : List Drawn) → length (part_positions n need later ps cs) ≤ need
unfolding part_positions emit
part_positions_most n need later ps [] = zero-le
part_positions_most n zero later ps (c ∷ cs) = le_refl 0
part_positions_most n (suc need) later ps (c ∷ cs) =
    go (λ m qs. part_positions_most n m later qs cs) (takes_position (suc need) (length cs + later) c.position ps)
  where
    go : ((m : ℕ) (qs : List ℕ) → length (part_positions n m later qs cs) ≤ m) → (t : Bool)
        → length (emit t (placed n ps c) (part_positions n (cond t need (suc need)) later (cond t (free n n c.position ps ∷ ps) ps) cs)) ≤ suc need
    go ih true = suc-le-suc (ih need (free n n c.position ps ∷ ps))
    go ih false = ih (suc need) ps

pub part_positions_enough : (n need later : ℕ) (ps : List ℕ) (cs : List Drawn) → need ≤ length cs + later
    → need ≤ length (part_positions n need later ps cs) + later
unfolding part_positions emit
part_positions_enough n need later ps [] h = h
part_positions_enough n zero later ps (c ∷ cs) h = zero-le
part_positions_enough n (suc need) later ps (c ∷ cs) h =
    go (λ m qs. part_positions_enough n m later qs cs) (not (is_in c.position ps)) (ltb (length cs + later) (suc need)) refl
  where
    go : ((m : ℕ) (qs : List ℕ) → m ≤ length cs + later → m ≤ length (part_positions n m later qs cs) + later) → (t u : Bool) → ltb (length cs + later) (suc need) ≡ u
        → suc need ≤ length (emit (t || u) (placed n ps c) (part_positions n (cond (t || u) need (suc need)) later (cond (t || u) (free n n c.position ps ∷ ps) ps) cs)) + later
    go ih true u e = omega (arith, ih need (free n n c.position ps ∷ ps) (omega arith))
    go ih false true e = omega (arith, ih need (free n n c.position ps ∷ ps) (omega arith))
    go ih false false e = ih (suc need) ps (ltb-false (length cs + later) (suc need) e)

-- only which positions are taken counts, and not their order
pub part_positions_same : (n need later : ℕ) (ps qs : List ℕ) (cs : List Drawn) → ((x : ℕ) → is_in x ps ≡ is_in x qs)
    → part_positions n need later ps cs ≡ part_positions n need later qs cs
unfolding part_positions emit is_in
part_positions_same n need later ps qs [] h = refl
part_positions_same n zero later ps qs (c ∷ cs) h = refl
part_positions_same n (suc need) later ps qs (c ∷ cs) h =
    rw (h c.position, free_same n n c.position ps qs h)
    (go (λ m us vs. part_positions_same n m later us vs cs) (takes_position (suc need) (length cs + later) c.position qs) (free n n c.position qs))
  where
    go : ((m : ℕ) (us vs : List ℕ) → ((x : ℕ) → is_in x us ≡ is_in x vs) → part_positions n m later us cs ≡ part_positions n m later vs cs)
        → (t : Bool) (p : ℕ)
        → emit t (record { position = p; sign = c.sign }) (part_positions n (cond t need (suc need)) later (cond t (p ∷ ps) ps) cs)
        ≡ emit t (record { position = p; sign = c.sign }) (part_positions n (cond t need (suc need)) later (cond t (p ∷ qs) qs) cs)
    go ih true p = ap (λ (l : List Drawn). record { position = p; sign = c.sign } ∷ l) (ih need (p ∷ ps) (p ∷ qs) (λ x. ap (λ (t : Bool). eqb x p || t) (h x)))
    go ih false p = ih (suc need) ps qs h

pub part_positions_append : (n need later : ℕ) (ps : List ℕ) (cs ds : List Drawn)
    → let new = part_positions n need (length ds + later) ps cs in
    part_positions n need later ps (cs ++ ds) ≡ new ++ part_positions n (need - length new) later (ps ++ positions_of new) ds
unfolding part_positions emit
part_positions_append n need later ps [] ds = rw (sub-zero need, append-nil ps)
part_positions_append n zero later ps (c ∷ cs) ds = sym (part_positions_none n later (ps ++ []) ds)
part_positions_append n (suc need) later ps (c ∷ cs) ds =
    rw (length-append cs ds, add_assoc (length cs) (length ds) later)
    (go (λ m qs. part_positions_append n m later qs cs ds) (takes_position (suc need) (length cs + (length ds + later)) c.position ps))
  where
    f : ℕ
    f = free n n c.position ps

    go : ((m : ℕ) (qs : List ℕ)
        → part_positions n m later qs (cs ++ ds)
        ≡ part_positions n m (length ds + later) qs cs
        ++ part_positions n (m - length (part_positions n m (length ds + later) qs cs)) later (qs ++ positions_of (part_positions n m (length ds + later) qs cs)) ds)
        → (t : Bool)
        → let new = emit t (placed n ps c) (part_positions n (cond t need (suc need)) (length ds + later) (cond t (f ∷ ps) ps) cs) in
        emit t (placed n ps c) (part_positions n (cond t need (suc need)) later (cond t (f ∷ ps) ps) (cs ++ ds))
        ≡ new ++ part_positions n (suc need - length new) later (ps ++ positions_of new) ds
    go ih true =
        ap (λ (l : List Drawn). placed n ps c ∷ l)
        (ih need (f ∷ ps)
        ∙ ap (λ (l : List Drawn). new ++ l)
        (ap (λ (m : ℕ). part_positions n m later (f ∷ (ps ++ positions_of new)) ds) (sym (suc-sub-suc need (length new)))
        ∙ part_positions_same n (suc need - suc (length new)) later (f ∷ (ps ++ positions_of new)) (ps ++ (f ∷ positions_of new)) ds (λ x. in_moved x f ps (positions_of new))))
      where
        new : List Drawn
        new = part_positions n need (length ds + later) (f ∷ ps) cs
    go ih false = ih (suc need) ps

-- ---- positions below n, each with the sign of a candidate

pub part_positions_inside : (n need later : ℕ) (ps : List ℕ) (cs : List Drawn) → Below n (positions_of cs)
    → Below n (positions_of (part_positions n need later ps cs))
unfolding part_positions emit
part_positions_inside n need later ps [] b = b
part_positions_inside n zero later ps (c ∷ cs) b = record { at = λ i l. absurd (not-suc-le-zero l) }
part_positions_inside n (suc need) later ps (c ∷ cs) b =
    go (λ m qs. part_positions_inside n m later qs cs (below_tail b)) (takes_position (suc need) (length cs + later) c.position ps)
  where
    go : ((m : ℕ) (qs : List ℕ) → Below n (positions_of (part_positions n m later qs cs))) → (t : Bool)
        → Below n (positions_of (emit t (placed n ps c) (part_positions n (cond t need (suc need)) later (cond t (free n n c.position ps ∷ ps) ps) cs)))
    go ih true = below_cons (free_inside n n c.position ps (b.at 0 (omega arith))) (ih need (free n n c.position ps ∷ ps))
    go ih false = ih (suc need) ps

-- what holds of each candidate's sign holds of each sign that is taken
pub part_positions_signs : (P : ℤ → Type 0) (n need later : ℕ) (ps : List ℕ) (cs : List Drawn)
    → ((i : ℕ) → i < length (signs_of cs) → P (get_or (signs_of cs) i (pos 0)))
    → let new = part_positions n need later ps cs in (i : ℕ) → i < length (signs_of new) → P (get_or (signs_of new) i (pos 0))
unfolding part_positions emit
part_positions_signs P n need later ps [] h i l = absurd (not-suc-le-zero l)
part_positions_signs P n zero later ps (c ∷ cs) h i l = absurd (not-suc-le-zero l)
part_positions_signs P n (suc need) later ps (c ∷ cs) h i l =
    go (λ m qs. part_positions_signs P n m later qs cs (λ j k. h (suc j) (suc-le-suc k))) (takes_position (suc need) (length cs + later) c.position ps) i l
  where
    go : ((m : ℕ) (qs : List ℕ) (j : ℕ) → j < length (signs_of (part_positions n m later qs cs)) → P (get_or (signs_of (part_positions n m later qs cs)) j (pos 0)))
        → (t : Bool)
        → let new = emit t (placed n ps c) (part_positions n (cond t need (suc need)) later (cond t (free n n c.position ps ∷ ps) ps) cs) in
        (j : ℕ) → j < length (signs_of new) → P (get_or (signs_of new) j (pos 0))
    go ih true zero k = h 0 (omega arith)
    go ih true (suc j) k = ih need (free n n c.position ps ∷ ps) j (le_of_suc-le-suc k)
    go ih false j k = ih (suc need) ps j k

-- ---- positions that were not taken before, and do not come twice

pub part_positions_apart : (n need later : ℕ) (ps : List ℕ) (cs : List Drawn) → Below n (positions_of cs) → need + length ps ≤ n
    → (x : ℕ) → is_in x (positions_of (part_positions n need later ps cs)) ≡ true → is_in x ps ≡ false
unfolding part_positions emit is_in
part_positions_apart n need later ps [] b h x e = absurd (false≢true e)
part_positions_apart n zero later ps (c ∷ cs) b h x e = absurd (false≢true e)
part_positions_apart n (suc need) later ps (c ∷ cs) b h x e =
    go (λ m qs k. part_positions_apart n m later qs cs (below_tail b) k x) (takes_position (suc need) (length cs + later) c.position ps) e
  where
    f : ℕ
    f = free n n c.position ps

    taken : (qs : List ℕ) → (x ≡ f) ⊎ (is_in x qs ≡ true) → (is_in x qs ≡ true → is_in x (f ∷ ps) ≡ false) → is_in x ps ≡ false
    taken qs (inl q) ih = rw q (free_is_free n c.position ps (b.at 0 (omega arith)) (omega arith))
    taken qs (inr q) ih = or_right (eqb x f) (is_in x ps) (ih q)

    go : ((m : ℕ) (qs : List ℕ) → m + length qs ≤ n → is_in x (positions_of (part_positions n m later qs cs)) ≡ true → is_in x qs ≡ false)
        → (t : Bool)
        → is_in x (positions_of (emit t (placed n ps c) (part_positions n (cond t need (suc need)) later (cond t (f ∷ ps) ps) cs))) ≡ true
        → is_in x ps ≡ false
    go ih true e =
        taken (positions_of (part_positions n need later (f ∷ ps) cs))
        (in_cases x f (positions_of (part_positions n need later (f ∷ ps) cs)) e) (ih need (f ∷ ps) (omega arith))
    go ih false e = ih (suc need) ps h e

pub part_positions_distinct : (n need later : ℕ) (ps : List ℕ) (cs : List Drawn) → Below n (positions_of cs) → need + length ps ≤ n
    → Distinct (positions_of (part_positions n need later ps cs))
unfolding part_positions emit
part_positions_distinct n need later ps [] b h = distinct_none
part_positions_distinct n zero later ps (c ∷ cs) b h = distinct_none
part_positions_distinct n (suc need) later ps (c ∷ cs) b h =
    go (λ m qs k. part_positions_distinct n m later qs cs (below_tail b) k) (takes_position (suc need) (length cs + later) c.position ps)
  where
    f : ℕ
    f = free n n c.position ps

    new : List ℕ
    new = positions_of (part_positions n need later (f ∷ ps) cs)

    once : (t : Bool) → is_in f new ≡ t → t ≡ false
    once false e = refl
    once true e =
        absurd
        (not_both (is_in f (f ∷ ps)) (in_here f ps) (part_positions_apart n need later (f ∷ ps) cs (below_tail b) (omega arith) f e))

    go : ((m : ℕ) (qs : List ℕ) → m + length qs ≤ n → Distinct (positions_of (part_positions n m later qs cs)))
        → (t : Bool)
        → Distinct (positions_of (emit t (placed n ps c) (part_positions n (cond t need (suc need)) later (cond t (f ∷ ps) ps) cs)))
    go ih true = distinct_cons f new (once (is_in f new) refl) (ih need (f ∷ ps) (omega arith))
    go ih false = ih (suc need) ps h

-- ---- all candidates

pub positions_part : (n need : ℕ) (ps : List ℕ) (cs : List Drawn) → positions n need ps cs ≡ part_positions n need 0 ps cs
unfolding part_positions positions emit
positions_part n need ps [] = refl
positions_part n zero ps (c ∷ cs) = refl
positions_part n (suc need) ps (c ∷ cs) =
    rw (add-zero (length cs)) (go (λ m qs. positions_part n m qs cs) (takes_position (suc need) (length cs) c.position ps))
  where
    go : ((m : ℕ) (qs : List ℕ) → positions n m qs cs ≡ part_positions n m 0 qs cs) → (t : Bool)
        → emit t (placed n ps c) (positions n (cond t need (suc need)) (cond t (free n n c.position ps ∷ ps) ps) cs)
        ≡ emit t (placed n ps c) (part_positions n (cond t need (suc need)) 0 (cond t (free n n c.position ps ∷ ps) ps) cs)
    go ih true = ap (λ (l : List Drawn). placed n ps c ∷ l) (ih need (free n n c.position ps ∷ ps))
    go ih false = ih (suc need) ps

pub positions_inside : (n need : ℕ) (ps : List ℕ) (cs : List Drawn) → Below n (positions_of cs) → Below n (positions_of (positions n need ps cs))
positions_inside n need ps cs = rw (positions_part n need ps cs) (part_positions_inside n need 0 ps cs)

pub positions_signs : (P : ℤ → Type 0) (n need : ℕ) (ps : List ℕ) (cs : List Drawn)
    → ((i : ℕ) → i < length (signs_of cs) → P (get_or (signs_of cs) i (pos 0)))
    → let new = positions n need ps cs in (i : ℕ) → i < length (signs_of new) → P (get_or (signs_of new) i (pos 0))
positions_signs P n need ps cs = rw (positions_part n need ps cs) (part_positions_signs P n need 0 ps cs)

pub positions_distinct : (n need : ℕ) (ps : List ℕ) (cs : List Drawn) → Below n (positions_of cs) → need + length ps ≤ n
    → Distinct (positions_of (positions n need ps cs))
positions_distinct n need ps cs = rw (positions_part n need ps cs) (part_positions_distinct n need 0 ps cs)

pub positions_append : (n need : ℕ) (ps : List ℕ) (cs ds : List Drawn)
    → let new = part_positions n need (length ds) ps cs in
    positions n need ps (cs ++ ds) ≡ new ++ positions n (need - length new) (ps ++ positions_of new) ds
positions_append n need ps cs ds =
    positions_part n need ps (cs ++ ds) ∙ part_positions_append n need 0 ps cs ds
    ∙ rw (add-zero (length ds), positions_part n (need - length (part_positions n need (length ds) ps cs)) (ps ++ positions_of (part_positions n need (length ds) ps cs)) ds)

-- ---- candidates of a stream

pub drawn_length : (bits : ℕ) (stream : List ℕ) → length (drawn_candidates bits stream) ≡ held 3 stream
unfolding drawn_candidates
drawn_length bits stream = length_table (held 3 stream) (λ j. drawn_of bits (piece 3 stream j))

pub drawn_at : (bits : ℕ) (stream : List ℕ) (j : ℕ) (d : Drawn) → j < held 3 stream → get_or (drawn_candidates bits stream) j d ≡ drawn_of bits (piece 3 stream j)
unfolding drawn_candidates
drawn_at bits stream j d h = get_or_table (held 3 stream) j (λ j. drawn_of bits (piece 3 stream j)) d h

pub drawn_append : (bits : ℕ) (xs ys : List ℕ) → length xs % 3 ≡ 0 → drawn_candidates bits (xs ++ ys) ≡ drawn_candidates bits xs ++ drawn_candidates bits ys
unfolding drawn_candidates
drawn_append bits xs ys e = pieces_append (drawn_of bits) 3 xs ys (omega arith) e

-- each position has its bits
pub drawn_inside : (bits : ℕ) (stream : List ℕ) → Below (2 ^ bits) (positions_of (drawn_candidates bits stream))
unfolding drawn_candidates
drawn_inside bits stream =
    rw (map_table (λ (t : Drawn). t.position) (held 3 stream) (λ j. drawn_of bits (piece 3 stream j)))
    (below_table (2 ^ bits) (held 3 stream) (λ j. piece 3 stream j % 2 ^ bits) (λ j l. mod-lt (piece 3 stream j) (pow_pos bits)))

-- each sign is +1 or −1
sign_of_is : (byte : ℕ) → Sign (sign_of byte)
sign_of_is byte = go (eqb (byte % 2) 1)
  where
    go : (t : Bool) → Sign (cond t (negsuc 0) (pos 1))
    go true = inr refl
    go false = inl refl

pub drawn_signs : (bits : ℕ) (stream : List ℕ) (i : ℕ) → i < length (signs_of (drawn_candidates bits stream))
    → Sign (get_or (signs_of (drawn_candidates bits stream)) i (pos 0))
unfolding drawn_candidates
drawn_signs bits stream = rw (map_table (λ (t : Drawn). t.sign) (held 3 stream) (λ j. drawn_of bits (piece 3 stream j))) each
  where
    sign : ℕ → ℤ
    sign j = sign_of (piece 3 stream j / 65536)

    each : (i : ℕ) → i < length (table (held 3 stream) sign) → Sign (get_or (table (held 3 stream) sign) i (pos 0))
    each i l = rw (get_or_table (held 3 stream) i sign (pos 0) (omega (arith, length_table (held 3 stream) sign))) (sign_of_is (piece 3 stream i / 65536))
