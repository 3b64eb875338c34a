use Rattle.std.proofs.Common.{List, ◌++◌}
use Rattle.std.specs.Io.KnownBytes.{Appends}
use Rattle.std.specs.List.{flat_map, range_with_len}
use Rattle.awari_rank.specs.Tuples.{tuples}
use Rattle.awari_table.specs.declared.images.Image.{Image}
use Rattle.awari_counts.specs.Pairs.{header_of, pair_row}
use Rattle.awari_counts.specs.Tables.{AreTabled}
use Rattle.awari_counts.proofs.pairs.print_table.Given as goal

abbrev pub invariant-loop-place : goal.invariant-loop-place
invariant-loop-place g l = (images : List Image) → AreTabled images l.fn.table (tuples 12 l.fn.table.level) l.counts → Appends (g.W.Write.contents l.fn.writer) (g.W.Write.contents l.writer)
    (header_of l.form l.fn.table.pair ++ flat_map (pair_row l.form l.fn.table.pair images l.fn.table.level l.fn.table.limit) (range_with_len 0 l.place))
