use Rattle.std.proofs.Common.{◌≡◌, length, take, drop}
use Rattle.awari_table.proofs.columns.Columns.copy_run.Given as goal

abbrev pub invariant-loop-k : goal.invariant-loop-k
invariant-loop-k l = (l.k-end ≡ length l.initial.run) × (length l.run ≡ length l.initial.run) × (take l.k l.run ≡ take l.k (drop l.from l.self))
