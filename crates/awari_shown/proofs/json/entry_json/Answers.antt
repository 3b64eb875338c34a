use Rattle.std.proofs.Common.{◌∙◌, ◌++◌, [], ap}
use Rattle.std.specs.Prelude.{codes}
use Rattle.awari_members.proofs.JsonLaws.{append_two}
use Rattle.awari_members.specs.Members.{marked}
use Rattle.awari_shown.specs.Json.{entry_members}
use Rattle.awari_shown.proofs.JsonLaws.{entry_json-parts}
use Rattle.awari_members.specs.declared.forms.Form.TheVariants.{Json}
use Rattle.awari_shown.proofs.json.entry_json.Goals as goal

pub returns : goal.returns
returns c =
    let members = marked Json (codes "{") (entry_members c.args.board.now c.args.entry) in
    append_two [] members (codes "}\n") _ _ (c.push_entry.ensures.items ∙ ap (λ t. t ++ members) c.new-text.ensures) c.push_bytes.ensures.items ∙ entry_json-parts c.args.board.now c.args.entry
