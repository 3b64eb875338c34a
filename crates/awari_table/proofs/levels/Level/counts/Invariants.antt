use Rattle.std.proofs.Common.{◌≡◌, length}
use Rattle.awari_table.proofs.CountLemmas.{IsCounted}
use Rattle.awari_table.proofs.levels.Level.counts.Given as goal

abbrev pub invariant-loop-rank : goal.invariant-loop-rank
invariant-loop-rank l = (l.boards ≡ length l.self.entries) × IsCounted l.self.entries l.rank l.won l.lost
