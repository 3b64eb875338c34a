use Rattle.awari_segments.proofs.ListLemmas.{AreEmpty}
use Rattle.awari_segments.proofs.lists.Lists.are_empty_to.Given as goal

abbrev pub invariant-loop-at : goal.invariant-loop-at
invariant-loop-at l = AreEmpty l.self-inside.lists.items l.at
