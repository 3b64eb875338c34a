use Rattle.std.proofs.Common.{◌∙◌, ◌∷◌, ◌++◌, [], ap, map, rules}
use Rattle.awari_members.proofs.JsonLaws.{append_two}
use Rattle.awari_members.proofs.MemberLaws.{json-row, value-row}
use Rattle.awari_members.specs.Members.{said}
use Rattle.awari_members.proofs.in_place.push_row.Goals as goal

pub returns-in-Text : goal.returns-in-Text
returns-in-Text c = record { items = c.push_values.ensures.items ∙ ap (λ t. c.args.text.now.items ++ t) (value-row c.args.form (map said c.args.members.now) c.in-Text.is); len = search rules }

pub returns-in-Json-clause-items : goal.returns-in-Json-clause-items
returns-in-Json-clause-items c =
    append_two c.args.text.now.items (123 ∷ []) _ _ _ c.push.ensures.items (append_two c.push.new.self.items _ (125 ∷ []) _ _ c.push_members.ensures.items c.push-in-Json.ensures.items)
    ∙ ap (λ t. c.args.text.now.items ++ t) (json-row c.args.form (map said c.args.members.now) c.in-Json.is)
