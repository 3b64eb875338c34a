use Rattle.std.proofs.Common.{◌≡◌, ◌+◌, length}
use Rattle.awari_table.specs.Images.{table_of}
use Rattle.awari_scan.specs.Scan.{AreScanned}
use Rattle.awari_scan.proofs.runs.scan_run.Given as goal

abbrev pub invariant-loop-k : goal.invariant-loop-k
invariant-loop-k l = record {
  size : length l.cells ≡ length l.initial.cells;
  scanned : AreScanned (table_of l.shelf).value (length l.shelf) l.start l.rank l.initial.cells → AreScanned (table_of l.shelf).value (length l.shelf) l.start (l.rank + l.k) l.cells;
}
