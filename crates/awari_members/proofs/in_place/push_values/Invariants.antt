use Rattle.std.proofs.Common.{◌≡◌, ◌≤◌, ◌+◌, ◌++◌, [], drop, length, map}
use Rattle.arrayvec.specs.ArrayVec.{array_vec_len}
use Rattle.awari_members.specs.Members.{room_of, said, valued}
use Rattle.awari_members.proofs.in_place.push_values.Given as goal

abbrev pub invariant-loop-member : goal.invariant-loop-member
invariant-loop-member l = record {
  short : length l.between ≤ 1;
  room : array_vec_len l.text + room_of (drop l.member-index l.members) ≤ array_vec_len l.fn.text + room_of l.members;
  items : l.text.items ++ valued l.form l.between (map said (drop l.member-index l.members)) ≡ l.fn.text.items ++ valued l.form [] (map said l.members);
}
