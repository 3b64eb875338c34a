use Rattle.std.proofs.Common.{length}
use Rattle.awari_table.specs.Images.{table_of}
use Rattle.awari_segments.proofs.Cutting.{AreScanned}
use Rattle.awari_segments.proofs.scanning.scanned_segments.Given as goal

abbrev pub invariant-loop-number : goal.invariant-loop-number
invariant-loop-number l = AreScanned (table_of l.shelf).value (length l.shelf) l.span l.number l.segments.items
