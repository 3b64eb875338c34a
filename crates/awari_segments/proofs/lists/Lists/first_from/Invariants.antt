use Rattle.awari_segments.proofs.ListLemmas.{AreEmpty}
use Rattle.awari_segments.proofs.lists.Lists.first_from.Given as goal

abbrev pub invariant-loop-at : goal.invariant-loop-at
invariant-loop-at l = AreEmpty l.self-inside.lists.items l.at
