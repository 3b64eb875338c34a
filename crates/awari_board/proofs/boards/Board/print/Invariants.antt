use Rattle.std.proofs.Common.{◌≡◌, ◌≤◌, ◌*◌}
use Rattle.arrayvec.specs.ArrayVec.{array_vec_len}
use Rattle.awari_board.specs.Text.{text_to}
use Rattle.awari_board.proofs.boards.Board.print.Given as goal

abbrev pub invariant-loop-place : goal.invariant-loop-place
invariant-loop-place l = record {
  room : array_vec_len l.text ≤ 3 * l.place;
  items : l.text.items ≡ text_to l.self l.place;
}
