use Rattle.std.proofs.Common.{◌≡◌, length, take}
use Rattle.awari_table.proofs.columns.Columns.to_vec.Given as goal

abbrev pub invariant-loop-rank : goal.invariant-loop-rank
invariant-loop-rank l = (l.rank-end ≡ length l.self) × (l.entries.items ≡ take l.rank l.self)
