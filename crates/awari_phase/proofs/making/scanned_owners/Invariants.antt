use Rattle.std.proofs.Common.{◌≡◌, ◌++◌, length}
use Rattle.awari_table.specs.Images.{table_of}
use Rattle.awari_phase.proofs.Beginning.{ScannedTo}
use Rattle.awari_phase.proofs.making.scanned_owners.Given as goal

abbrev pub invariant-loop-ends : goal.invariant-loop-ends
invariant-loop-ends g l = record {
  whole : l.yielded ++ l.ends-iterator.rest.items ≡ l.initial.ends-iterator.rest.items;
  scanned : ScannedTo (table_of l.shelf).value (length l.shelf) l.owners l.yielded l.all.items;
}
