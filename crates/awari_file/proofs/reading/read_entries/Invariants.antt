use Rattle.std.proofs.Common.{◌≡◌, ◌≤◌, ◌-◌, ◌++◌, List, ℕ, Ok}
use Rattle.awari_streams.specs.Counted.{inner_of, faults_of}
use Rattle.awari_table.specs.declared.images.Entry.{Entry}
use Rattle.awari_file.specs.declared.faults.FileFault.TheVariants.{Truncated}
use Rattle.awari_file.specs.Reading.{entries_at}
use Rattle.awari_file.specs.Source.{IsAt}
use Rattle.awari_file.proofs.Loop.{with_front}
use Rattle.awari_file.proofs.reading.read_entries.Given as goal

abbrev pub invariant-loop-left : goal.invariant-loop-left
invariant-loop-left g l = record {
  within : l.left ≤ l.count;
  faults : faults_of l.reader ≡ faults_of l.initial.reader;
  read : (whole left : List ℕ) → IsAt whole left (g.R.Read.remaining (inner_of l.initial.reader))
      → (new : List Entry) × (rest taken : List ℕ) × (l.entries ≡ l.initial.entries ++ new) × IsAt whole rest (g.R.Read.remaining (inner_of l.reader))
      × (left ≡ taken ++ rest) × ((more : List ℕ) → with_front new (entries_at l.left Truncated more) ≡ entries_at l.count Truncated (taken ++ more))
      × (entries_at (l.count - l.left) Truncated left ≡ Ok (new, rest));
}

abbrev pub decreases-loop-left : goal.decreases-loop-left
decreases-loop-left g l = l.left
