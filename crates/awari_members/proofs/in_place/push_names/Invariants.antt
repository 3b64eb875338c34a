use Rattle.std.proofs.Common.{◌≡◌, ◌≤◌, ◌+◌, ◌++◌, drop, length, map}
use Rattle.arrayvec.specs.ArrayVec.{array_vec_len}
use Rattle.awari_members.specs.Members.{named, names_text, room_of, said}
use Rattle.awari_members.proofs.in_place.push_names.Given as goal

abbrev pub invariant-loop-member : goal.invariant-loop-member
invariant-loop-member l = record {
  short : length l.next ≤ 1;
  room : array_vec_len l.text + room_of (drop l.member-index l.members) ≤ array_vec_len l.fn.text + room_of l.members;
  items : l.text.items ++ named l.next (map said (drop l.member-index l.members)) ≡ l.fn.text.items ++ names_text (map said l.members);
}
