use Rattle.std.proofs.Common.{◌≡◌, ◌≤◌, ◌*◌, All, take}
use Rattle.std.specs.List.{flat_map}
use Rattle.arrayvec.specs.ArrayVec.{array_vec_len}
use Rattle.awari_table.specs.Spelling.{entry_line, FitsNumbers}
use Rattle.awari_table.proofs.spelling.write_batch.Given as goal

abbrev pub invariant-loop-entry : goal.invariant-loop-entry
invariant-loop-entry g l = record {
  room : array_vec_len l.lines ≤ 23 * l.entry-index;
  fit : All FitsNumbers (take l.entry-index l.entries);
  spelled : l.lines.items ≡ flat_map entry_line (take l.entry-index l.entries);
}
