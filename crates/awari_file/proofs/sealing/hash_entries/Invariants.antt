use Rattle.std.proofs.Common.{◌-◌, ◌≡◌, ◌≤◌, ◌++◌, ℕ, List, length, take}
use Rattle.std.specs.List.{flat_map}
use Rattle.sha2.specs.Hashers.{Holds256}
use Rattle.awari_file.specs.FileText.{entry_text}
use Rattle.awari_file.proofs.sealing.hash_entries.Given as goal

abbrev pub invariant-loop-from : goal.invariant-loop-from
invariant-loop-from l = record {
  sized : length l.entries ≡ l.count;
  within : l.from ≤ l.count;
  holds : (m : List ℕ) → Holds256 l.initial.hasher m → Holds256 l.hasher (m ++ flat_map entry_text (take l.from l.entries));
}

abbrev pub decreases-loop-from : goal.decreases-loop-from
decreases-loop-from l = l.count - l.from
