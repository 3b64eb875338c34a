use Rattle.std.proofs.Common.{◌∙◌, ◌∷◌, ◌++◌, [], ap}
use Rattle.std.specs.Prelude.{codes}
use Rattle.awari_members.proofs.JsonLaws.{append_two}
use Rattle.awari_members.specs.Json.{json_string}
use Rattle.awari_members.specs.Members.{Named, marked, number, said, text}
use Rattle.awari_shown.proofs.JsonLaws.{refusal_json-parts}
use Rattle.awari_members.specs.declared.forms.Form.TheVariants.{Json}
use Rattle.awari_shown.proofs.json.refusal_json.Goals as goal

pub returns : goal.returns
returns c =
    append_two [] (codes "{\"request\":") _ _ _ (c.push_bytes.ensures.items ∙ ap (λ t. t ++ codes "{\"request\":") c.new-text.ensures)
    (append_two c.push_bytes.new.text.items (json_string c.args.request.now) _ _ _ c.push_string.ensures.items
    (append_two c.push_string.new.text.items _ (codes "}\n") _ _
    (c.push_members.ensures.items
    ∙ ap (λ (m : Named). c.push_string.new.text.items ++ marked Json (codes ",") (m ∷ said c.text-name.result ∷ [])) (c.number-number.ensures.said ∙ ap (number (codes "refused")) c.from.ensures)
    ∙ ap (λ (m : Named). c.push_string.new.text.items ++ marked Json (codes ",") (number (codes "refused") c.args.number ∷ m ∷ []))
    (c.text-name.ensures.said ∙ ap (text (codes "name")) c.name_of.ensures.name))
    c.push_bytes-2.ensures.items))
    ∙ refusal_json-parts c.args.request.now c.args.number
