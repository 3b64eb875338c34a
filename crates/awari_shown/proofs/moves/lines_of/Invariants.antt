use Rattle.std.proofs.Common.{◌≡◌, ◌≤◌, ◌*◌, take}
use Rattle.arrayvec.specs.ArrayVec.{array_vec_len}
use Rattle.awari_shown.specs.Moves.{move_lines}
use Rattle.awari_shown.proofs.moves.lines_of.Given as goal

abbrev pub invariant-loop-weighed : goal.invariant-loop-weighed
invariant-loop-weighed l = record {
  room : array_vec_len l.text ≤ 186 * l.weighed-index;
  spelled : l.text.items ≡ move_lines l.plan (take l.weighed-index l.moves);
}
