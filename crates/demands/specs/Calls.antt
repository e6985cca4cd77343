-- The theorems over the entries themselves. A call of an entry is what was lent, what came back and what the lent places hold at the end, with
-- what the parameters' types say and all that a caller learns: `Learnt`, which the checker reads off the function's `ensures`.
--     issued_accepted      make_key, sign and check: if key making and signing answer 0 and what they wrote is handed on, checking answers 0
--     issued_whole, roster_issued_whole
--                          the whole of demand 3 of what sign, or sign_roster, answers and leaves with a key that make_key made
--     roster_as_joined     sign_roster answers and leaves what sign does on the joined bytes
--     roster_written, roster_opened, roster_given
--                          make_key, sign_roster, write and open or open_roster: writing the envelope answers 0, and opening it answers 0,
--                          the same team number and the same roster
--     opened_exactly       open answers 0 exactly if the envelope's head is right and check answers 0 for its signature on its own team bytes
--                          followed by its roster
--     renumbered_opened    the same of an envelope with another team number written over its own, and of the roster under that other number
--     answered_signed      where open answers 0, check answers 0 for the signature on the team number and the roster that came back
-- Assumes nothing.
use Rattle.std.specs.Prelude.{◌≡◌, refl, ◌↔◌, List, ℕ, ◌<◌, length}
use Rattle.std.proofs.Common.{sym, ap, ap₂, ◌∙◌, arith}
use contract.Lifetimes.{Lfts}
use borrow.Fn.Kinds.{ParamKind, ResultKind, Out, Dens, GoodsP, res_t, ended_of}
use denote.Triple.Clauses.{AtExit}
use Rattle.whole.specs.Below.{Below}
use Rattle.answers.specs.Answers.{number_of}
use Rattle.answers.specs.Tests.{answer, Answered}
use Rattle.answers.specs.TestLaws.{after_done}
use Rattle.sets.specs.SetI.{set_i, set_i_good}
use Rattle.sampling.specs.Streams.{roster_message}
use Rattle.records.specs.Layout.{stretch}
use Rattle.keys.specs.Key.{public_of, secret_of, make_key_tests}
use Rattle.keys.specs.Promises.{MakesKey}
use Rattle.signing.specs.Sign.{Asked}
use Rattle.signing.specs.Promises.{Signs, counter_of}
use Rattle.checking.specs.Check.{check_tests}
use Rattle.envelope.specs.Envelope.{head_bytes, envelope_bytes, envelope_of, team_of, roster_of, message_of, signature_of, head_tests, write_tests, open_tests, team_answered, length_answered, roster_answered}
use Rattle.envelope.specs.EnvelopeLaws.{opens_roster}
use Rattle.envelope.specs.Promises.{WritesEnvelope, Opens, opened_team, opened_len}
use Rattle.keys.proofs.make_key.Kinds as make_key_kinds
use Rattle.keys.proofs.make_key.Reads as make_key
use Rattle.signing.proofs.sign.Kinds as sign_kinds
use Rattle.signing.proofs.sign.Reads as sign
use Rattle.signing.proofs.sign_roster.Kinds as sign_roster_kinds
use Rattle.signing.proofs.sign_roster.Reads as sign_roster
use Rattle.checking.proofs.check.Kinds as check_kinds
use Rattle.checking.proofs.check.Reads as check
use Rattle.envelope.proofs.write.Kinds as write_kinds
use Rattle.envelope.proofs.write.Reads as write
use Rattle.envelope.proofs.open.Kinds as open_kinds
use Rattle.envelope.proofs.open.Reads as opens
use Rattle.envelope.proofs.open_roster.Kinds as open_roster_kinds
use Rattle.envelope.proofs.open_roster.Reads as open_roster
use Rattle.demands.specs.Demand3.{Demand3, set_i_demand_3, signed_accepted}
use Rattle.demands.specs.Roster.{Delivered, roster_delivered, RosterAsked, roster_asked, opens_exactly, opened_signed, renumbered, renumbered_exactly}

-- ---- a call

pub record Call (n : ℕ) (ps : List (ParamKind n)) (r : ResultKind n) (Learnt : Out n ps r) : Type 0 where
  pub κs : Lfts n
  pub lent : Dens κs ps
  -- what the parameters' types say: a number fits its width, and so does a slice's length
  pub typed : GoodsP κs ps lent
  pub back : (res_t r κs).Denot
  pub left : AtExit (ended_of n ps r) κs
  pub learnt : Learnt κs lent back left

-- ---- the calls, by their parameters' names

-- `public` and `secret` of key making, `signature` of signing and `envelope` of writing are what the call left in them; `old` is what such a place
-- held before

abbrev pub MakeKey : Type 0
MakeKey = Call 6 make_key_kinds.ps make_key_kinds.r make_key.Learnt

pub record KeyMade : Type 0 where
  pub s : List ℕ
  pub e : List ℕ
  pub seed_a : List ℕ
  pub seed_y : List ℕ
  pub old_public : List ℕ
  pub public : List ℕ
  pub old_secret : List ℕ
  pub secret : List ℕ
  pub number : ℕ

abbrev pub key_made : MakeKey → KeyMade
key_made c =
    record {
      s = c.lent.0.now;
      e = c.lent.1.0.now;
      seed_a = c.lent.1.1.0.now;
      seed_y = c.lent.1.1.1.0.now;
      old_public = c.lent.1.1.1.1.0.now;
      public = c.left.1.1.1.1.0.now;
      old_secret = c.lent.1.1.1.1.1.0.now;
      secret = c.left.1.1.1.1.1.0.now;
      number = number_of c.back;
    }

abbrev pub Sign : Type 0
Sign = Call 4 sign_kinds.ps sign_kinds.r sign.Learnt

pub record Signed : Type 0 where
  pub secret : List ℕ
  pub message : List ℕ
  pub r : List ℕ
  pub budget : ℕ
  pub old : List ℕ
  pub signature : List ℕ
  pub number : ℕ
  pub counter : ℕ

abbrev pub signed : Sign → Signed
signed c =
    record {
      secret = c.lent.0.now;
      message = c.lent.1.0.now;
      r = c.lent.1.1.0.now;
      budget = c.lent.1.1.1.0;
      old = c.lent.1.1.1.1.0.now;
      signature = c.left.1.1.1.1.0.now;
      number = number_of c.back;
      counter = counter_of c.back;
    }

abbrev pub SignRoster : Type 0
SignRoster = Call 4 sign_roster_kinds.ps sign_roster_kinds.r sign_roster.Learnt

pub record RosterSigned : Type 0 where
  pub secret : List ℕ
  pub team : ℕ
  pub roster : List ℕ
  pub r : List ℕ
  pub budget : ℕ
  pub old : List ℕ
  pub signature : List ℕ
  pub number : ℕ
  pub counter : ℕ

abbrev pub roster_signed : SignRoster → RosterSigned
roster_signed c =
    record {
      secret = c.lent.0.now;
      team = c.lent.1.0;
      roster = c.lent.1.1.0.now;
      r = c.lent.1.1.1.0.now;
      budget = c.lent.1.1.1.1.0;
      old = c.lent.1.1.1.1.1.0.now;
      signature = c.left.1.1.1.1.1.0.now;
      number = number_of c.back;
      counter = counter_of c.back;
    }

-- the same as a signing of the joined bytes
abbrev pub as_message : RosterSigned → Signed
as_message x =
    record {
      secret = x.secret;
      message = roster_message x.team x.roster;
      r = x.r;
      budget = x.budget;
      old = x.old;
      signature = x.signature;
      number = x.number;
      counter = x.counter;
    }

abbrev pub Check : Type 0
Check = Call 3 check_kinds.ps check_kinds.r check.Learnt

pub record Checked : Type 0 where
  pub public : List ℕ
  pub message : List ℕ
  pub signature : List ℕ
  pub number : ℕ

abbrev pub checked : Check → Checked
checked c = record { public = c.lent.0.now; message = c.lent.1.0.now; signature = c.lent.1.1.0.now; number = number_of c.back }

abbrev pub Write : Type 0
Write = Call 3 write_kinds.ps write_kinds.r write.Learnt

pub record Written : Type 0 where
  pub team : ℕ
  pub roster : List ℕ
  pub signature : List ℕ
  pub old : List ℕ
  pub envelope : List ℕ
  pub number : ℕ

abbrev pub written : Write → Written
written c =
    record {
      team = c.lent.0;
      roster = c.lent.1.0.now;
      signature = c.lent.1.1.0.now;
      old = c.lent.1.1.1.0.now;
      envelope = c.left.1.1.1.0.now;
      number = number_of c.back;
    }

abbrev pub Open : Type 0
Open = Call 2 open_kinds.ps open_kinds.r opens.Learnt

pub record Opened : Type 0 where
  pub public : List ℕ
  pub envelope : List ℕ
  pub number : ℕ
  pub team : ℕ
  pub len : ℕ

abbrev pub opened : Open → Opened
opened c =
    record {
      public = c.lent.0.now;
      envelope = c.lent.1.0.now;
      number = number_of c.back;
      team = opened_team c.back;
      len = opened_len c.back;
    }

abbrev pub OpenRoster : Type 0
OpenRoster = Call 2 open_roster_kinds.ps open_roster_kinds.r open_roster.Learnt

pub record Given : Type 0 where
  pub public : List ℕ
  pub envelope : List ℕ
  pub roster : List ℕ

abbrev pub given : OpenRoster → Given
given c = record { public = c.lent.0.now; envelope = c.lent.1.0.now; roster = c.back.now }

-- ---- what they promise, in these names

makes : (c : MakeKey)
    → MakesKey set_i (key_made c).s (key_made c).e (key_made c).seed_a (key_made c).seed_y (key_made c).old_public (key_made c).public (key_made c).old_secret (key_made c).secret (key_made c).number
makes c = c.learnt

abbrev SignsIt : Signed → Type 0
SignsIt x = Signs set_i x.secret x.message x.r x.budget x.old x.signature x.number x.counter

signs : (c : Sign) → SignsIt (signed c)
signs c = c.learnt

signs_roster : (c : SignRoster) → SignsIt (as_message (roster_signed c))
signs_roster c = c.learnt

checks : (c : Check) → Answered (check_tests set_i (checked c).public (checked c).message (checked c).signature) (checked c).number
checks c = c.learnt

writes : (c : Write) → WritesEnvelope set_i (written c).team (written c).roster (written c).signature (written c).old (written c).envelope (written c).number
writes c = c.learnt

opens_it : (c : Open) → Opens (open_tests set_i (opened c).public (opened c).envelope) (opened c).envelope (opened c).number (opened c).team (opened c).len
opens_it c = c.learnt

gives : (c : OpenRoster) → (given c).roster ≡ roster_answered (answer (open_tests set_i (given c).public (given c).envelope)) (given c).envelope
gives c = c.learnt

-- ---- key making answered 0

module _ (key : MakeKey) (key_made_lem : (key_made key).number ≡ 0) where
  made : answer (make_key_tests set_i (key_made key).s (key_made key).e (key_made key).seed_a (key_made key).seed_y (length (key_made key).old_public) (length (key_made key).old_secret)) ≡ 0
  made = sym (makes key).answered.is ∙ key_made_lem

  public_is : (key_made key).public ≡ public_of set_i (key_made key).s (key_made key).e (key_made key).seed_a
  public_is = (makes key).public.is ∙ after_done _ _ made

  secret_is : (key_made key).secret ≡ secret_of set_i (key_made key).s (key_made key).e (key_made key).seed_a (key_made key).seed_y
  secret_is = (makes key).secret.is ∙ after_done _ _ made

  -- signing with the record that it left
  own : (x : Signed) → x.secret ≡ (key_made key).secret → SignsIt x
      → Signs set_i (secret_of set_i (key_made key).s (key_made key).e (key_made key).seed_a (key_made key).seed_y) x.message x.r x.budget x.old x.signature x.number x.counter
  own x secret_lent signs = rw (← (secret_lent ∙ secret_is)) signs

-- ---- the theorems

-- what demand 3 says of a signing with a key
abbrev pub Says : KeyMade → Signed → Type 0
Says k x = Demand3 set_i k.s k.e k.seed_a k.seed_y x.message x.r x.budget x.signature x.number x.counter

whole : (key : MakeKey) (x : Signed) → SignsIt x → (key_made key).number ≡ 0 → x.secret ≡ (key_made key).secret
    → Asked set_i x.message x.r x.budget x.old → Says (key_made key) x
whole key x signs key_made_lem secret_lent asked =
    set_i_demand_3 _ _ _ _ x.message x.r x.old _ _ (length (key_made key).old_public) (length (key_made key).old_secret) _ _ (made key key_made_lem) asked
    (own key key_made_lem x secret_lent signs)

pub issued_whole : (key : MakeKey) (signing : Sign)
    → (key_made key).number ≡ 0
    → (signed signing).secret ≡ (key_made key).secret
    → Asked set_i (signed signing).message (signed signing).r (signed signing).budget (signed signing).old
    → Says (key_made key) (signed signing)
issued_whole key signing = whole key (signed signing) (signs signing)

pub roster_issued_whole : (key : MakeKey) (signing : SignRoster)
    → (key_made key).number ≡ 0
    → (roster_signed signing).secret ≡ (key_made key).secret
    → RosterAsked set_i (roster_signed signing).roster (roster_signed signing).r (roster_signed signing).budget (roster_signed signing).old
    → Says (key_made key) (as_message (roster_signed signing))
roster_issued_whole key signing key_made_lem secret_lent asked =
    whole key (as_message (roster_signed signing)) (signs_roster signing) key_made_lem secret_lent (roster_asked set_i (roster_signed signing).team asked)

-- sign_roster answers and leaves what sign does, where both are lent the same and sign the joined bytes
pub roster_as_joined : (signing : SignRoster) (other : Sign)
    → (signed other).secret ≡ (roster_signed signing).secret
    → (signed other).message ≡ roster_message (roster_signed signing).team (roster_signed signing).roster
    → (signed other).r ≡ (roster_signed signing).r
    → (signed other).budget ≡ (roster_signed signing).budget
    → (signed other).old ≡ (roster_signed signing).old
    → ((roster_signed signing).number ≡ (signed other).number)
    × ((roster_signed signing).counter ≡ (signed other).counter)
    × ((roster_signed signing).signature ≡ (signed other).signature)
roster_as_joined signing other secret_same message_same r_same budget_same old_same =
    (one.number_is ∙ sym (signs other).number_is, one.counter_is ∙ sym (signs other).counter_is, one.signature_is ∙ sym (signs other).signature_is)
  where
    one : Signs set_i (signed other).secret (signed other).message (signed other).r (signed other).budget (signed other).old (roster_signed signing).signature (roster_signed signing).number (roster_signed signing).counter
    one = rw (secret_same, message_same, r_same, budget_same, old_same) (signs_roster signing)

pub issued_accepted : (key : MakeKey) (signing : Sign) (checking : Check)
    → (key_made key).number ≡ 0
    → (signed signing).number ≡ 0
    → (signed signing).secret ≡ (key_made key).secret
    → (checked checking).public ≡ (key_made key).public
    → (checked checking).message ≡ (signed signing).message
    → (checked checking).signature ≡ (signed signing).signature
    → (checked checking).number ≡ 0
issued_accepted key signing checking key_made_lem issued secret_lent public_lent message_lent signature_lent =
    (checks checking).is
    ∙ rw (public_lent ∙ public_is key key_made_lem, message_lent, signature_lent)
    (signed_accepted set_i set_i_good _ _ _ (key_made key).seed_y _ (signed signing).r (signed signing).old _ (signed signing).budget (length (key_made key).old_public) (length (key_made key).old_secret) (signed signing).counter (made key key_made_lem)
    (rw issued at (own key key_made_lem (signed signing) secret_lent (signs signing))))

-- ---- through the envelope

-- a roster that was signed under its team number is put into an envelope: key making and signing answer 0, and what they wrote is handed on
pub record Sent (key : MakeKey) (signing : SignRoster) (writing : Write) : Type 0 where
  pub key_made_lem : (key_made key).number ≡ 0
  pub issued : (roster_signed signing).number ≡ 0
  pub secret_lent : (roster_signed signing).secret ≡ (key_made key).secret
  pub team_lent : (written writing).team ≡ (roster_signed signing).team
  pub roster_lent : (written writing).roster ≡ (roster_signed signing).roster
  pub signature_lent : (written writing).signature ≡ (roster_signed signing).signature
  -- the envelope has the named length
  pub envelope_long : length (written writing).old ≡ envelope_bytes set_i (length (written writing).roster)

-- opening answers 0, and the team number and the roster that were written
pub record Arrives (writing : Write) (opening : Open) : Type 0 where
  pub accepted : (opened opening).number ≡ 0
  pub team_same : (opened opening).team ≡ (written writing).team
  pub length_same : (opened opening).len ≡ length (written writing).roster
  pub roster_same : stretch head_bytes (opened opening).len (opened opening).envelope ≡ (written writing).roster

module _ (key : MakeKey) (signing : SignRoster) (writing : Write) (sent : Sent key signing writing) where
  -- a team number has two bytes
  team_fits : (roster_signed signing).team < 65536
  team_fits = omega (arith, signing.typed.1.0)

  delivered : Delivered set_i (key_made key).public (written writing).signature (written writing).team (written writing).roster
  delivered =
      rw (public_is key sent.key_made_lem, sent.signature_lent, sent.team_lent, sent.roster_lent)
      (roster_delivered set_i set_i_good _ _ _ (key_made key).seed_y _ (roster_signed signing).r (roster_signed signing).old _ (roster_signed signing).team (roster_signed signing).budget (length (key_made key).old_public) (length (key_made key).old_secret) (roster_signed signing).counter
      team_fits (made key sent.key_made_lem) (rw sent.issued at (own key sent.key_made_lem (as_message (roster_signed signing)) sent.secret_lent (signs_roster signing))))

  passes_written : answer (write_tests set_i (written writing).roster (written writing).signature (length (written writing).old)) ≡ 0
  passes_written = rw sent.envelope_long delivered.written

  -- writing it answers 0
  pub roster_written : (written writing).number ≡ 0
  roster_written = (writes writing).answered.is ∙ passes_written

  envelope_is : (written writing).envelope ≡ envelope_of set_i (written writing).team (written writing).roster (written writing).signature
  envelope_is = (writes writing).envelope.is ∙ after_done _ _ passes_written

  -- what opening gives of it
  opens_written : answer (open_tests set_i (key_made key).public (written writing).envelope) ≡ 0
  opens_written = rw envelope_is delivered.opened

  team_back : team_answered (answer (open_tests set_i (key_made key).public (written writing).envelope)) (written writing).envelope ≡ (written writing).team
  team_back = rw envelope_is delivered.team_answered_lem

  length_back : length_answered (answer (open_tests set_i (key_made key).public (written writing).envelope)) (written writing).envelope ≡ length (written writing).roster
  length_back = rw envelope_is delivered.length_answered_lem

  roster_back : roster_answered (answer (open_tests set_i (key_made key).public (written writing).envelope)) (written writing).envelope ≡ (written writing).roster
  roster_back = rw envelope_is delivered.roster_answered_lem

pub roster_opened : (key : MakeKey) (signing : SignRoster) (writing : Write) (opening : Open) → Sent key signing writing
    → (opened opening).public ≡ (key_made key).public
    → (opened opening).envelope ≡ (written writing).envelope
    → Arrives writing opening
roster_opened key signing writing opening sent public_lent envelope_lent =
    record {
      accepted = (opens_it opening).answered.is ∙ rw (public_lent, envelope_lent) (opens_written key signing writing sent);
      team_same = (opens_it opening).team_is.is ∙ rw (public_lent, envelope_lent) (team_back key signing writing sent);
      length_same = (opens_it opening).len_is.is ∙ rw (public_lent, envelope_lent) (length_back key signing writing sent);
      roster_same = roster_is;
    }
  where
    roster_is : stretch head_bytes (opened opening).len (opened opening).envelope ≡ (written writing).roster
    roster_is = opens_roster (opened opening).envelope (opens_it opening) refl ∙ rw (public_lent, envelope_lent) (roster_back key signing writing sent)

-- the entry that gives the roster itself
pub roster_given : (key : MakeKey) (signing : SignRoster) (writing : Write) (giving : OpenRoster) → Sent key signing writing
    → (given giving).public ≡ (key_made key).public
    → (given giving).envelope ≡ (written writing).envelope
    → (given giving).roster ≡ (written writing).roster
roster_given key signing writing giving sent public_lent envelope_lent = gives giving ∙ rw (public_lent, envelope_lent) (roster_back key signing writing sent)

-- ---- the team number is signed

pub opened_exactly : (opening : Open) (checking : Check)
    → (checked checking).public ≡ (opened opening).public
    → (checked checking).message ≡ message_of (opened opening).envelope
    → (checked checking).signature ≡ signature_of set_i (opened opening).envelope
    → ((opened opening).number ≡ 0) ↔ ((answer (head_tests set_i (opened opening).envelope) ≡ 0) × ((checked checking).number ≡ 0))
opened_exactly opening checking public_lent message_lent signature_lent = (
  λ h. let p = exactly.0 (sym (opens_it opening).answered.is ∙ h) in (p.0, number ∙ p.1),
  λ p. (opens_it opening).answered.is ∙ exactly.1 (p.0, sym number ∙ p.1),
)
  where
    exactly : (answer (open_tests set_i (opened opening).public (opened opening).envelope) ≡ 0)
        ↔ ((answer (head_tests set_i (opened opening).envelope) ≡ 0) × (answer (check_tests set_i (opened opening).public (message_of (opened opening).envelope) (signature_of set_i (opened opening).envelope)) ≡ 0))
    exactly = opens_exactly set_i (opened opening).public (opened opening).envelope

    number : (checked checking).number ≡ answer (check_tests set_i (opened opening).public (message_of (opened opening).envelope) (signature_of set_i (opened opening).envelope))
    number = (checks checking).is ∙ rw (public_lent, message_lent, signature_lent)

-- with another team number written over its own: if and only if check answers 0 for the signature on the roster under that other number
pub renumbered_opened : (opening : Open) (checking : Check) (team : ℕ) (envelope : List ℕ)
    → (opened opening).envelope ≡ renumbered team envelope
    → (checked checking).public ≡ (opened opening).public
    → (checked checking).message ≡ roster_message team (roster_of envelope)
    → (checked checking).signature ≡ signature_of set_i envelope
    → ((opened opening).number ≡ 0) ↔ ((answer (head_tests set_i envelope) ≡ 0) × ((checked checking).number ≡ 0))
renumbered_opened opening checking team envelope renumbers public_lent message_lent signature_lent =
    (λ h. let p = exactly.0 (sym opens ∙ h) in (p.0, number ∙ p.1), λ p. opens ∙ exactly.1 (p.0, sym number ∙ p.1))
  where
    exactly : (answer (open_tests set_i (opened opening).public (renumbered team envelope)) ≡ 0)
        ↔ ((answer (head_tests set_i envelope) ≡ 0) × (answer (check_tests set_i (opened opening).public (roster_message team (roster_of envelope)) (signature_of set_i envelope)) ≡ 0))
    exactly = renumbered_exactly set_i (opened opening).public team envelope

    opens : (opened opening).number ≡ answer (open_tests set_i (opened opening).public (renumbered team envelope))
    opens = (opens_it opening).answered.is ∙ ap (λ (xs : List ℕ). answer (open_tests set_i (opened opening).public xs)) renumbers

    number : (checked checking).number ≡ answer (check_tests set_i (opened opening).public (roster_message team (roster_of envelope)) (signature_of set_i envelope))
    number = (checks checking).is ∙ rw (public_lent, message_lent, signature_lent)

-- what open answers was signed: the signature holds for the team number and the roster that came back. That a slice of bytes holds numbers below
-- 256 is a premise: `typed` speaks of a slice's length alone
pub answered_signed : (opening : Open) (checking : Check)
    → Below 256 (opened opening).envelope
    → (opened opening).number ≡ 0
    → (checked checking).public ≡ (opened opening).public
    → (checked checking).message ≡ roster_message (opened opening).team (stretch head_bytes (opened opening).len (opened opening).envelope)
    → (checked checking).signature ≡ signature_of set_i (opened opening).envelope
    → (checked checking).number ≡ 0
answered_signed opening checking bytes accepted public_lent message_lent signature_lent =
    (checks checking).is
    ∙ rw (public_lent, message_lent, signature_lent)
    (ap₂ (λ (team : ℕ) (roster : List ℕ). answer (check_tests set_i (opened opening).public (roster_message team roster) (signature_of set_i (opened opening).envelope))) team_is roster_is
    ∙ opened_signed set_i (opened opening).public (opened opening).envelope bytes opens)
  where
    opens : answer (open_tests set_i (opened opening).public (opened opening).envelope) ≡ 0
    opens = sym (opens_it opening).answered.is ∙ accepted

    team_is : (opened opening).team ≡ team_of (opened opening).envelope
    team_is = (opens_it opening).team_is.is ∙ after_done _ _ opens

    roster_is : stretch head_bytes (opened opening).len (opened opening).envelope ≡ roster_of (opened opening).envelope
    roster_is = opens_roster (opened opening).envelope (opens_it opening) refl ∙ after_done _ _ opens
