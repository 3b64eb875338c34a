use Rattle.std.proofs.Common.{◌≡◌, ℕ, ◌<◌, ◌≤◌, List, sum, vec_len}
use Rattle.awari_folder.specs.State.{Unchanged}
use Rattle.awari_places.specs.Places.{Says}
use Rattle.awari_places.specs.Runs.{IsRunOf}
use Rattle.awari_table.specs.declared.images.Image.{Image}
use Rattle.awari_counts.specs.Tables.{AreTabledTo, IsSized, cells_of}
use Rattle.awari_counts.proofs.tables.count_own.Given as goal

abbrev pub invariant-loop-rank : goal.invariant-loop-rank
invariant-loop-rank g l = record {
  long : vec_len l.counts ≡ cells_of l.table;
  few : sum l.counts.items ≤ l.rank;
  unchanged : Unchanged (g.F.Folder.state l.fn.folder) (g.F.Folder.state l.folder);
  counted : (levels : ℕ) (images : List Image) → Says (g.F.Folder.state l.fn.folder).stands levels images → l.table.level < levels → IsRunOf images l.table.level l.run × AreTabledTo images l.table l.rank l.counts.items;
  sized : 0 < l.rank → (levels : ℕ) (images : List Image) → Says (g.F.Folder.state l.fn.folder).stands levels images → l.table.level < levels → IsSized images l.table.level;
}
