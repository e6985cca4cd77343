-- What the tests of key making say once every one has passed: what writing the two records asks. Assumes nothing.
use mathlib.Core.Path.{◌≡◌, refl, ◌∙◌}
use mathlib.Core.List.{List}
use Prim.Native.Nat.{ℕ}
use lib.ListN.{length}
use borrow.Author.Tests.{eqb-true}
use Rattle.whole.specs.Every.{every}
use Rattle.answers.specs.Tests.{Answered, AllPass}
use Rattle.answers.specs.ResultLaws.{passed_ok}
use Rattle.sets.specs.declared.Numbers.{Numbers}
use Rattle.sets.specs.Known.{Known, known_good}
use Rattle.records.specs.Secret.{byte_tests}
use Rattle.keys.specs.Asks.{ForPublic, ForSecret}
use Rattle.keys.specs.Key.{secrets_tests, make_key_tests}

module _ {set : Numbers} {s e seed_a : List ℕ} (seed_y public secret : List ℕ) (known : Known set)
    (a : Answered (make_key_tests set s e seed_a seed_y (length public) (length secret)) 0) where
  -- the public record may have been written since
  pub passed_secret : (public₁ : List ℕ) → length public₁ ≡ length public → ForSecret set s e seed_a seed_y public₁ secret
  unfolding make_key_tests secrets_tests byte_tests AllPass every
  passed_secret public₁ kept =
      let p = passed_ok a refl in
      record {
        good = known_good known;
        s_long = eqb-true _ _ p.0;
        e_long = eqb-true _ _ p.1.0;
        seed_a_long = eqb-true _ _ p.1.1.0;
        seed_y_long = eqb-true _ _ p.1.1.1.0;
        public_long = kept ∙ eqb-true _ _ p.1.1.1.1.0;
        secret_long = eqb-true _ _ p.1.1.1.1.1.0;
      }

  pub passed_public : ForPublic set s e seed_a public
  passed_public =
      let asked = passed_secret public refl in
      record {
        for_put = record { s_long = asked.s_long; e_long = asked.e_long; public_long = asked.public_long };
        seed_a_long = asked.seed_a_long;
      }
