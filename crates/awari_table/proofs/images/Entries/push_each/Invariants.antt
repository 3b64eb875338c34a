use Rattle.std.proofs.Common.{◌≡◌, ◌++◌, length, take}
use Rattle.awari_table.proofs.images.Entries.push_each.Given as goal

abbrev pub invariant-loop-rank : goal.invariant-loop-rank
invariant-loop-rank l = (l.rank-end ≡ length l.more) × (l.self ≡ l.initial.self ++ take l.rank l.more)
