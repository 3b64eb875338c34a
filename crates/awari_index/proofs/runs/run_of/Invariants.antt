use Rattle.std.proofs.Common.{◌<◌, ◌≤◌, ◌-◌, length}
use Rattle.std.specs.Prelude.{slice_index_or}
use Rattle.awari_index.specs.Runs.{no_run}
use Rattle.awari_index.proofs.runs.run_of.Given as goal

abbrev pub invariant-loop-run : goal.invariant-loop-run
invariant-loop-run l = record {
  inside : l.run < length l.runs;
  begun : (slice_index_or l.runs l.run no_run).start ≤ l.rank;
}

abbrev pub decreases-loop-run : goal.decreases-loop-run
decreases-loop-run l = length l.runs - l.run
