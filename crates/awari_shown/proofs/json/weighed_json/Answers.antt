use Rattle.std.proofs.Common.{◌∙◌, ◌++◌, [], ap, map}
use Rattle.std.specs.Prelude.{codes}
use Rattle.awari_members.proofs.JsonLaws.{append_two}
use Rattle.awari_members.specs.Json.{commas}
use Rattle.awari_members.specs.Members.{marked}
use Rattle.awari_shown.specs.Json.{entry_members, move_json}
use Rattle.awari_shown.proofs.JsonLaws.{weighed_json-parts}
use Rattle.awari_members.specs.declared.forms.Form.TheVariants.{Json}
use Rattle.awari_shown.proofs.json.weighed_json.Goals as goal

pub returns : goal.returns
returns c =
    let entry = marked Json (codes "{") (entry_members c.args.board.now c.args.weighed.now.entry) in
    append_two [] entry _ _ _ (c.push_entry.ensures.items ∙ ap (λ t. t ++ entry) c.new-text.ensures)
    (append_two c.push_entry.new.text.items (codes ",\"moves\":[") _ _ _ c.push_bytes.ensures.items
    (append_two c.push_bytes.new.text.items _ (codes "]}\n") _ _
    (c.push_moves.ensures.items ∙ ap (λ moves. c.push_bytes.new.text.items ++ commas (map (move_json c.args.weighed.now.entry.plan) moves)) c.as_slice.ensures.value)
    c.push_bytes-2.ensures.items))
    ∙ weighed_json-parts c.args.board.now c.args.weighed.now
