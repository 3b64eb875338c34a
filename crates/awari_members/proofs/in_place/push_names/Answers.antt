use Rattle.std.proofs.Common.{◌++◌, ap, map, rules}
use Rattle.awari_members.specs.Members.{said}
use Rattle.awari_members.proofs.MemberLaws.{names-row}
use Rattle.awari_members.proofs.in_place.push_names.Goals as goal

pub loop-member-init : goal.loop-member-init
loop-member-init c = record { short = search rules; room = search rules; items = ap (λ t. c.args.text.now.items ++ t) (names-row (map said c.args.members.now)) }
