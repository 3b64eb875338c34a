use Rattle.std.proofs.Common.{◌≡◌, ◌+◌, ◌≤◌, List, sum, true, vec_len}
use Rattle.awari_table.specs.declared.images.Image.{Image}
use Rattle.awari_counts.specs.Tables.{AreCellsFrom, CountsSegment}
use Rattle.awari_counts.specs.declared.cells.Start.{Start}
use Rattle.awari_counts.proofs.cells.count_found.Given as goal

abbrev pub invariant-loop-place : goal.invariant-loop-place
invariant-loop-place l = record {
  long : vec_len l.counts ≡ vec_len l.fn.counts;
  few : sum l.counts.items ≤ sum l.fn.counts.items + l.place;
  counted : (images : List Image) (start : Start) → AreCellsFrom images start.table start.first l.found → CountsSegment true images start l.place l.fn.counts.items l.counts.items;
}
