use Rattle.std.proofs.Common.{List, take}
use Rattle.std.specs.Io.KnownBytes.{Appends}
use Rattle.awari_folder.specs.State.{Unchanged}
use Rattle.awari_table.specs.declared.images.Image.{Image}
use Rattle.awari_counts.specs.Counts.{shown_levels}
use Rattle.awari_facts.specs.Sources.{SaysBy}
use Rattle.awari_counts.proofs.counts.print_levels.Given as goal

abbrev pub invariant-loop-number : goal.invariant-loop-number
invariant-loop-number g l = record {
  unchanged : Unchanged (g.F.Folder.state l.fn.folder) (g.F.Folder.state l.folder);
  lines : (images : List Image) → SaysBy l.task.source (g.F.Folder.state l.fn.folder).stands images → Appends (g.W.Write.contents l.fn.writer) (g.W.Write.contents l.writer) (shown_levels l.task.form (take l.number images));
}
