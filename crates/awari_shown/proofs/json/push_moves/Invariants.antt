use Rattle.std.proofs.Common.{◌≡◌, ◌≤◌, ◌+◌, ◌*◌, ◌++◌, map, take}
use Rattle.arrayvec.specs.ArrayVec.{array_vec_len}
use Rattle.awari_members.specs.Json.{commas}
use Rattle.awari_shown.specs.Json.{move_json}
use Rattle.awari_shown.proofs.json.push_moves.Given as goal

abbrev pub invariant-loop-index : goal.invariant-loop-index
invariant-loop-index l = record {
  room : array_vec_len l.text ≤ array_vec_len l.fn.text + 195 * l.index;
  items : l.text.items ≡ l.fn.text.items ++ commas (map (move_json l.plan) (take l.index l.moves));
}
