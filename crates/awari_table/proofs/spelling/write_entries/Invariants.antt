use Rattle.std.proofs.Common.{◌≡◌, ◌≤◌, ◌-◌, All, length, take}
use Rattle.std.specs.Io.KnownBytes.{Appends}
use Rattle.std.specs.List.{flat_map}
use Rattle.awari_streams.specs.Counted.{inner_of, faults_of}
use Rattle.awari_table.specs.Spelling.{entry_line, FitsNumbers}
use Rattle.awari_table.proofs.spelling.write_entries.Given as goal

abbrev pub invariant-loop-from : goal.invariant-loop-from
invariant-loop-from g l = record {
  sized : length l.level.entries ≡ l.boards;
  within : l.from ≤ l.boards;
  lines : Appends (g.W.Write.contents (inner_of l.initial.writer)) (g.W.Write.contents (inner_of l.writer)) (flat_map entry_line (take l.from l.level.entries));
  faults : faults_of l.initial.writer ≤ faults_of l.writer;
  fit : All FitsNumbers (take l.from l.level.entries);
}

abbrev pub decreases-loop-from : goal.decreases-loop-from
decreases-loop-from g l = l.boards - l.from
