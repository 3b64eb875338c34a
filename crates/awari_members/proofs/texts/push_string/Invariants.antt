use Rattle.std.proofs.Common.{◌≡◌, ◌≤◌, ◌+◌, ◌*◌, ◌++◌, ◌∷◌, take}
use Rattle.std.specs.List.{flat_map}
use Rattle.arrayvec.specs.ArrayVec.{array_vec_len}
use Rattle.awari_members.specs.Json.{string_byte}
use Rattle.awari_members.proofs.texts.push_string.Given as goal

abbrev pub invariant-loop-byte : goal.invariant-loop-byte
invariant-loop-byte l = record {
  room : array_vec_len l.text ≤ array_vec_len l.fn.text + 1 + 6 * l.byte-index;
  items : l.text.items ≡ l.fn.text.items ++ 34 ∷ flat_map string_byte (take l.byte-index l.bytes);
}
