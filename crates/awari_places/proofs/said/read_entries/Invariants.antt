use Rattle.std.proofs.Common.{◌≡◌, ℕ, ◌<◌, List, length}
use Rattle.awari_folder.specs.State.{Unchanged}
use Rattle.awari_table.specs.declared.images.Image.{Image}
use Rattle.awari_places.specs.Places.{Says}
use Rattle.awari_places.specs.Runs.{IsRunOf}
use Rattle.awari_places.proofs.Collecting.{AreFirst}
use Rattle.awari_places.proofs.said.read_entries.Given as goal

abbrev pub invariant-loop-rank : goal.invariant-loop-rank
invariant-loop-rank g l = record {
  many : length l.entries ≡ l.rank;
  unchanged : Unchanged (g.F.Folder.state l.fn.folder) (g.F.Folder.state l.folder);
  said : (levels : ℕ) (images : List Image) → Says (g.F.Folder.state l.fn.folder).stands levels images → l.fn.level < levels → IsRunOf images l.fn.level l.run × AreFirst images l.fn.level l.rank l.entries;
}
