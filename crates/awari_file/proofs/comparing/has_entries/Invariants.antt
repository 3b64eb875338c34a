use Rattle.std.proofs.Common.{◌≡◌, ◌≤◌, ◌-◌, ◌++◌, ℕ, All, List, Some, true, length, take}
use Rattle.std.specs.List.{flat_map}
use Rattle.sha2.specs.Hashers.{Holds256}
use Rattle.awari_streams.specs.Counted.{inner_of, faults_of}
use Rattle.awari_table.specs.Spelling.{FitsNumbers}
use Rattle.awari_file.specs.FileText.{entry_text}
use Rattle.awari_file.specs.Source.{Meets}
use Rattle.awari_file.proofs.comparing.has_entries.Given as goal

abbrev pub invariant-loop-from : goal.invariant-loop-from
invariant-loop-from g l = record {
  sized : length l.level.entries ≡ l.boards;
  within : l.from ≤ l.boards;
  met : (left : List ℕ) → g.R.Read.remaining (inner_of l.initial.reader) ≡ Some left → Meets true left (g.R.Read.remaining (inner_of l.reader)) (flat_map entry_text (take l.from l.level.entries));
  holds : (m : List ℕ) → Holds256 l.initial.hasher m → Holds256 l.hasher (m ++ flat_map entry_text (take l.from l.level.entries));
  faults : faults_of l.initial.reader ≤ faults_of l.reader;
  fit : All FitsNumbers (take l.from l.level.entries);
}

abbrev pub decreases-loop-from : goal.decreases-loop-from
decreases-loop-from g l = l.boards - l.from
