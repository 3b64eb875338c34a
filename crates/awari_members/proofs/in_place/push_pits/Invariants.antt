use Rattle.std.proofs.Common.{◌≡◌, ◌≤◌, ◌+◌, ◌*◌, ◌++◌, ◌∷◌, [], map, take}
use Rattle.std.specs.Fmt.{decimal}
use Rattle.arrayvec.specs.ArrayVec.{array_vec_len}
use Rattle.awari_members.specs.Json.{commas}
use Rattle.awari_members.proofs.in_place.push_pits.Given as goal

abbrev pub invariant-loop-index : goal.invariant-loop-index
invariant-loop-index l = record {
  room : array_vec_len l.text ≤ array_vec_len l.fn.text + 1 + 21 * l.index;
  items : l.text.items ≡ (l.fn.text.items ++ 91 ∷ []) ++ commas (map decimal (take l.index l.pits));
}
