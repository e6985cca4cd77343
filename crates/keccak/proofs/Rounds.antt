-- What `permute` cites, that a fold over the constants is the rounds one after another; and the length of the permutation's result.
-- Assumes nothing.
use Rattle.std.proofs.Common.{◌≡◌, refl, sym, ap, ◌∙◌, ℕ, suc, ◌+◌, ◌<◌, List, [], ◌∷◌, length, get_or, add-zero, suc-le-suc, zero-lt-suc, zero-add, arith}
use Rattle.std.specs.List.{fold}
use Rattle.keccak.specs.Constants.{round_constant}
use Rattle.keccak.specs.Steps.{theta, rho, pi, chi, add_constant, round, rounds, keccak_f}

-- a round with its constant k
abbrev pub round_by : List ℕ → ℕ → List ℕ
round_by A k = add_constant (chi (pi (rho (theta A)))) k

-- the rounds from i on, of which ks has the constants
rounds_more : (A : List ℕ) (i : ℕ) (ks : List ℕ) → ((k : ℕ) → k < length ks → get_or ks k 0 ≡ round_constant (i + k))
    → fold round_by (rounds i A) ks ≡ rounds (i + length ks) A
unfolding rounds round
rounds_more A i [] h = ap (λ n. rounds n A) (sym (add-zero i))
rounds_more A i (x ∷ ks) h =
    ap (λ B. fold round_by B ks) first
    ∙ rounds_more A (suc i) ks (λ k l. h (suc k) (suc-le-suc l) ∙ ap round_constant {x = i + suc k} (omega arith))
    ∙ ap (λ n. rounds n A) {x = suc i + length ks} (omega arith)
  where
    first : round_by (rounds i A) x ≡ rounds (suc i) A
    first = ap (round_by (rounds i A)) (h 0 (zero-lt-suc _) ∙ ap round_constant (add-zero i))

pub permuted : (A ks : List ℕ) → length ks ≡ 24 → ((k : ℕ) → k < 24 → get_or ks k 0 ≡ round_constant k) → fold round_by A ks ≡ keccak_f A
unfolding keccak_f rounds
permuted A ks e h = rounds_more A 0 ks (λ k l. h k (omega arith) ∙ ap round_constant (sym (zero-add k))) ∙ ap (λ n. rounds n A) (zero-add _ ∙ e)

length_round : (A : List ℕ) (i : ℕ) → length (round A i) ≡ 25
unfolding round chi
length_round A i = refl

pub length_keccak_f : (A : List ℕ) → length (keccak_f A) ≡ 25
unfolding keccak_f rounds
length_keccak_f A = length_round (rounds 23 A) 23
