-- Laws of the secret record. What is written reads back: `secret_s`, `secret_e`, `secret_seed_a_lem`, `secret_seed_y_lem`, `secret_g_lem`,
-- `secret_marked`; what reads is what would be written: `secret_again`. RoundTripLaws states both from the entries' tests. And s and e as
-- stretches that are lent: `s_lent`, `e_lent`.
-- Assumes nothing.
use Rattle.std.specs.Prelude.{◌≡◌, true, length, take, drop}
use Rattle.std.proofs.Math.Path.{refl, ap, ap₂}
use Rattle.std.proofs.Common.{sym, ◌∙◌, add-zero, add_assoc, le_of_eq}
use mathlib.Core.List.{List, [], ◌++◌}
use Prim.Native.Nat.{ℕ, ◌+◌, ◌*◌, ◌-◌}
use native.Mathlib.Omega.{arith}
use Rattle.std.proofs.Math.ListN.{length-append}
use Rattle.std.proofs.Math.Seq.{take_all}
use Rattle.whole.specs.Parts.{part_length, part_piece, part_last, part_second, parts_join}
use Rattle.sets.specs.declared.Numbers.{Numbers}
use Rattle.records.specs.Layout.{mark, marked, stretch, secret_bytes}
use Rattle.sets.specs.Limits.{seed_bytes, digest_bytes}
use Rattle.records.specs.Secret.{secret_record, s_of, all_e, secret_seed_a, secret_seed_y, secret_g}
use Rattle.records.specs.Asks.{SecretLengths}
use Rattle.records.specs.PublicLaws.{marked_mark, marked_front}

-- ---- what is written reads back

module _ (set : Numbers) (s e seed_a seed_y g : List ℕ) where
  pub secret_marked : marked set 2 (secret_record set s e seed_a seed_y g) ≡ true
  unfolding secret_record
  secret_marked = marked_mark set 2 (s ++ (e ++ (seed_a ++ (seed_y ++ g))))

  module _ (long : SecretLengths set s e seed_a seed_y g) where
    pub secret_record_length : length (secret_record set s e seed_a seed_y g) ≡ secret_bytes set
    unfolding secret_record
    secret_record_length = simp length-append (omega (arith, long))

    pub secret_s : s_of set (secret_record set s e seed_a seed_y g) ≡ s
    unfolding s_of secret_record
    secret_s = part_piece 2 set.n (mark set 2) s (e ++ (seed_a ++ (seed_y ++ g))) refl long.s_long

    pub secret_e : all_e set (secret_record set s e seed_a seed_y g) ≡ e
    unfolding all_e secret_record
    secret_e =
        part_second 2 set.n (set.k * set.n) (mark set 2) _ refl
        ∙ part_piece set.n (set.k * set.n) s e (seed_a ++ (seed_y ++ g)) long.s_long long.e_long

    -- what follows the mark, s and e
    tail_part : (a m : ℕ)
        → stretch (2 + set.n + set.k * set.n + a) m (secret_record set s e seed_a seed_y g) ≡ stretch a m (seed_a ++ (seed_y ++ g))
    unfolding secret_record
    tail_part a m =
        ap (λ (b : ℕ). stretch b m (secret_record set s e seed_a seed_y g)) shifted
        ∙ part_second 2 (set.n + (set.k * set.n + a)) m (mark set 2) _ refl
        ∙ part_second set.n (set.k * set.n + a) m s _ long.s_long
        ∙ part_second (set.k * set.n) a m e _ long.e_long
      where
        shifted : 2 + set.n + set.k * set.n + a ≡ 2 + (set.n + (set.k * set.n + a))
        shifted = omega arith

    pub secret_seed_a_lem : secret_seed_a set (secret_record set s e seed_a seed_y g) ≡ seed_a
    unfolding secret_seed_a
    secret_seed_a_lem =
        ap (λ (b : ℕ). stretch b seed_bytes (secret_record set s e seed_a seed_y g)) (sym (add-zero (2 + set.n + set.k * set.n)))
        ∙ tail_part 0 seed_bytes
        ∙ part_piece 0 seed_bytes [] seed_a (seed_y ++ g) refl long.seed_a_long

    pub secret_seed_y_lem : secret_seed_y set (secret_record set s e seed_a seed_y g) ≡ seed_y
    unfolding secret_seed_y
    secret_seed_y_lem = tail_part seed_bytes seed_bytes ∙ part_piece seed_bytes seed_bytes seed_a seed_y g long.seed_a_long long.seed_y_long

    pub secret_g_lem : secret_g set (secret_record set s e seed_a seed_y g) ≡ g
    unfolding secret_g
    secret_g_lem =
        ap (λ (b : ℕ). stretch b digest_bytes (secret_record set s e seed_a seed_y g)) (add_assoc (2 + set.n + set.k * set.n) seed_bytes seed_bytes)
        ∙ tail_part (seed_bytes + seed_bytes) digest_bytes
        ∙ part_second seed_bytes seed_bytes digest_bytes seed_a (seed_y ++ g) long.seed_a_long
        ∙ part_last seed_bytes digest_bytes seed_y g long.seed_y_long long.g_long

-- ---- what reads is what would be written

module _ (set : Numbers) (secret : List ℕ) (long : length secret ≡ secret_bytes set) where
  -- the values have the lengths that writing wants
  pub secret_lengths : SecretLengths set (s_of set secret) (all_e set secret) (secret_seed_a set secret) (secret_seed_y set secret) (secret_g set secret)
  unfolding s_of all_e secret_seed_a secret_seed_y secret_g
  secret_lengths =
      record {
        s_long = part_length 2 set.n secret (omega arith);
        e_long = part_length (2 + set.n) (set.k * set.n) secret (omega arith);
        seed_a_long = part_length (2 + set.n + set.k * set.n) seed_bytes secret (omega arith);
        seed_y_long = part_length (2 + set.n + set.k * set.n + seed_bytes) seed_bytes secret (omega arith);
        g_long = part_length (2 + set.n + set.k * set.n + seed_bytes + seed_bytes) digest_bytes secret (omega arith);
      }

  pub secret_again : marked set 2 secret ≡ true
      → secret_record set (s_of set secret) (all_e set secret) (secret_seed_a set secret) (secret_seed_y set secret) (secret_g set secret) ≡ secret
  unfolding secret_record s_of all_e secret_seed_a secret_seed_y secret_g
  secret_again e =
      ap₂ ◌++◌ (marked_front set 2 secret (omega arith) e)
      (ap (λ (l : List ℕ). stretch 2 n secret ++ l)
      (ap (λ (l : List ℕ). stretch (2 + n) m secret ++ l)
      (ap (λ (l : List ℕ). stretch (2 + n + m) seed_bytes secret ++ l) (parts_join (2 + n + m + seed_bytes) seed_bytes digest_bytes secret)
      ∙ parts_join (2 + n + m) seed_bytes (seed_bytes + digest_bytes) secret)
      ∙ parts_join (2 + n) m (seed_bytes + (seed_bytes + digest_bytes)) secret)
      ∙ parts_join 2 n (m + (seed_bytes + (seed_bytes + digest_bytes))) secret)
      ∙ parts_join 0 2 (n + (m + (seed_bytes + (seed_bytes + digest_bytes)))) secret
      ∙ take_all (secret_bytes set) secret (le_of_eq long)
    where
      n : ℕ
      n = set.n

      m : ℕ
      m = set.k * set.n

-- ---- s and e_1..e_k as a function is lent them, by where they start and end

module _ (set : Numbers) (secret : List ℕ) {middle end : ℕ} (a : middle ≡ 2 + set.n) (b : end ≡ 2 + set.n + set.k * set.n) where
  s_size : middle - 2 ≡ set.n
  s_size = omega arith

  e_size : end - middle ≡ set.k * set.n
  e_size = omega arith

  pub s_lent : take (middle - 2) (drop 2 secret) ≡ s_of set secret
  unfolding s_of
  s_lent = rw s_size

  pub e_lent : take (end - middle) (drop middle secret) ≡ all_e set secret
  unfolding all_e
  e_lent = rw (e_size, a)

  module _ (long : length secret ≡ secret_bytes set) where
    pub s_lent_long : length (take (middle - 2) (drop 2 secret)) ≡ set.n
    s_lent_long = ap length s_lent ∙ (secret_lengths set secret long).s_long

    pub e_lent_long : length (take (end - middle) (drop middle secret)) ≡ set.k * set.n
    e_lent_long = ap length e_lent ∙ (secret_lengths set secret long).e_long
