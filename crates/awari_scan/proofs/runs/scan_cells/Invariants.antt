use Rattle.std.proofs.Common.{◌≡◌, ◌+◌, ◌-◌, ◌≤◌, length}
use Rattle.awari_table.specs.Images.{table_of}
use Rattle.awari_scan.specs.Scan.{AreScanned}
use Rattle.awari_scan.proofs.runs.scan_cells.Given as goal

abbrev pub invariant-loop-rank : goal.invariant-loop-rank
invariant-loop-rank l = record {
  size : length l.cells ≡ length l.initial.cells;
  from : l.start ≤ l.rank;
  within : l.rank ≤ l.start + length l.initial.cells;
  scanned : AreScanned (table_of l.shelf).value (length l.shelf) l.start l.rank l.cells;
}

abbrev pub decreases-loop-rank : goal.decreases-loop-rank
decreases-loop-rank l = l.end - l.rank
