use Rattle.std.proofs.Common.{◌*◌, ◌<◌, ◌≤◌, length}
use Rattle.std.specs.Prelude.{slice_index_or}
use Rattle.awari_index.specs.Runs.{no_run}
use Rattle.awari_index.specs.declared.index.TheConstants.{WIDTH}
use Rattle.awari_index.proofs.RunLists.{WindowsBelow}
use Rattle.awari_index.proofs.index.windows_of.Given as goal

abbrev pub invariant-loop-window : goal.invariant-loop-window
invariant-loop-window l = record {
  inside : l.run < length l.runs;
  begun : (slice_index_or l.runs l.run no_run).start ≤ l.window * WIDTH;
  windows : WindowsBelow WIDTH l.runs l.windows.items l.window;
}
