use Rattle.std.proofs.Common.{◌≡◌, ◌-◌, ◌≤◌, min, sum, vec_len}
use Rattle.awari_facts.specs.Sources.{images_of}
use Rattle.awari_counts.specs.Tables.{AreTabledTo, cells_of}
use Rattle.awari_counts.proofs.cells.count_on.Given as goal

abbrev pub invariant-loop-first : goal.invariant-loop-first
invariant-loop-first g l = record {
  within : l.first ≤ l.boards;
  room : min (l.boards - l.first) 65536 ≤ vec_len l.found;
  long : vec_len l.counts ≡ cells_of l.table;
  few : sum l.counts.items ≤ l.first;
  counted : AreTabledTo (images_of l.levels) l.table l.first l.counts.items;
}

abbrev pub decreases-loop-first : goal.decreases-loop-first
decreases-loop-first g l = l.boards - l.first
