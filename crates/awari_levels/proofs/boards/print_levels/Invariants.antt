use Rattle.std.specs.Io.KnownBytes.{Appends}
use Rattle.std.specs.List.{flat_map, range_with_len}
use Rattle.awari_folder.specs.State.{Unchanged}
use Rattle.awari_levels.specs.Boards.{level_lines}
use Rattle.awari_levels.proofs.boards.print_levels.Given as goal

abbrev pub invariant-loop-level : goal.invariant-loop-level
invariant-loop-level g l = record {
  unchanged : Unchanged (g.F.Folder.state l.fn.folder) (g.F.Folder.state l.folder);
  lines : Appends (g.W.Write.contents l.fn.writer) (g.W.Write.contents l.writer) (flat_map (level_lines l.shelf) (range_with_len 0 l.level));
}
