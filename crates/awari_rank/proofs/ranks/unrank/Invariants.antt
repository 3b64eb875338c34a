use Rattle.awari_rank.proofs.Unranking.{IsLaid}
use Rattle.awari_rank.proofs.ranks.unrank.Given as goal

abbrev pub invariant-loop-pit : goal.invariant-loop-pit
invariant-loop-pit l = IsLaid l.stones l.initial.larger l.pits l.pit l.left l.larger
