use Rattle.std.proofs.Common.{◌∙◌, ◌∷◌, ◌++◌, [], ap}
use Rattle.std.specs.Prelude.{codes}
use Rattle.awari_members.proofs.JsonLaws.{append_two}
use Rattle.awari_members.specs.Members.{Named, marked, truth}
use Rattle.awari_shown.proofs.JsonLaws.{move_json-parts}
use Rattle.awari_members.specs.declared.forms.Form.TheVariants.{Json}
use Rattle.awari_shown.proofs.json.push_move.Goals as goal

pub returns-clause-items : goal.returns-clause-items
returns-clause-items c =
    append_two c.args.text.now.items _ _ _ _ c.push_worth.ensures.items
    (append_two c.push_worth.new.text.items _ (125 ∷ []) _ _
    (c.push_members.ensures.items
    ∙ ap (λ (m : Named). c.push_worth.new.text.items ++ marked Json (codes ",") (m ∷ [])) (c.truth.ensures.said ∙ ap (truth (codes "plan")) c.is_planned-is_plan.ensures))
    c.push.ensures.items)
    ∙ ap (λ t. c.args.text.now.items ++ t) (move_json-parts c.args.plan c.args.weighed)
