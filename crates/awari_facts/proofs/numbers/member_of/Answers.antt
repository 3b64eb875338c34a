use Rattle.std.proofs.Common.{◌≤◌, length, arith}
use Rattle.awari_queries.specs.Columns.{name_of}
use Rattle.awari_queries.specs.declared.columns.Column.{Column}
use Rattle.awari_queries.specs.declared.columns.Column.TheVariants.{Rank, Value, Distance, Plan, Captures, Greedy, Moves, Keep, Trap, Other, Waits}

name-short : (column : Column) → length (name_of column) ≤ 8
name-short Rank = omega arith
name-short Value = omega arith
name-short Distance = omega arith
name-short Plan = omega arith
name-short Captures = omega arith
name-short Greedy = omega arith
name-short Moves = omega arith
name-short Keep = omega arith
name-short Trap = omega arith
name-short Other = omega arith
name-short Waits = omega arith
