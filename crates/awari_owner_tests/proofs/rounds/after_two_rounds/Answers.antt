use Rattle.awari_owner_tests.proofs.Wholes.{whole_grown}
use Rattle.awari_owner_tests.proofs.rounds.after_two_rounds.Goals as goal

pub returns-clause-whole : goal.returns-clause-whole
returns-clause-whole g c = whole_grown 1 _ _ c.in_ok-owners-3.ensures (whole_grown 1 _ _ c.in_ok-owners-2.ensures c.in_ok-owners.ensures.whole)
