use Rattle.std.proofs.Common.{◌≤◌, take}
use Rattle.std.specs.Io.KnownBytes.{Appends}
use Rattle.awari_streams.specs.Counted.{inner_of, faults_of}
use Rattle.awari_table.specs.Spelling.{table_text, AreImages}
use Rattle.awari_table.proofs.spelling.write_shelf_text.Given as goal

abbrev pub invariant-loop-number : goal.invariant-loop-number
invariant-loop-number g l = record {
  wrote : Appends (g.W.Write.contents (inner_of l.initial.writer)) (g.W.Write.contents (inner_of l.writer)) (table_text (take l.number l.shelf));
  fits : AreImages 0 (take l.number l.shelf);
  grown : faults_of l.initial.writer ≤ faults_of l.writer;
}
