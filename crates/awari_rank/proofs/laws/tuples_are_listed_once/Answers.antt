use Rattle.awari_rank.proofs.Counting.{All-tuples}
use Rattle.awari_rank.proofs.Ranking.{occurs_once}
use Rattle.awari_rank.proofs.laws.tuples_are_listed_once.Goals as goal

pub returns-clause-once : goal.returns-clause-once
returns-clause-once c = occurs_once

pub returns-clause-nothing_else : goal.returns-clause-nothing_else
returns-clause-nothing_else c = All-tuples
