-- The goals of `records::public::test_public` that want an answer by hand. Assumes nothing.
use borrow.Author.Rules.{rules}
use Rattle.answers.specs.TestLaws.{tests}
use Rattle.sets.specs.Known.{known_good}
use Rattle.records.specs.Public.{public_tests}
use Rattle.records.proofs.public.test_public.Goals as goal

pub public_bytes-requires : goal.public_bytes-requires
public_bytes-requires c = search (known_good, rules)

pub returns-then-public-public_bytes : goal.returns-then-public-public_bytes
unfolding public_tests
returns-then-public-public_bytes c = search (tests, rules)

pub returns-then-not-is_marked : goal.returns-then-not-is_marked
unfolding public_tests
returns-then-not-is_marked c = search (tests, rules)

pub returns-then-not-t_passes : goal.returns-then-not-t_passes
unfolding public_tests
returns-then-not-t_passes c = search (tests, rules) depth 12

pub returns : goal.returns
unfolding public_tests
returns c = search (tests, rules) depth 12
