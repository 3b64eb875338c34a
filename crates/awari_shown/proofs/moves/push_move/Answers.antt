use Rattle.std.proofs.Common.{◌∙◌, ◌∷◌, ◌++◌, [], ap, append_assoc, sym}
use Rattle.awari_members.proofs.JsonLaws.{append_two}
use Rattle.awari_members.proofs.MemberLaws.{text-line}
use Rattle.awari_shown.specs.Moves.{is_planned, plan_mark, worth_members}
use Rattle.awari_shown.proofs.moves.push_move.Goals as goal

pub returns-clause-items : goal.returns-clause-items
returns-clause-items c =
    append_two c.args.text.now.items _ _ _ _ (c.push_worth.ensures.items ∙ ap (λ t. c.args.text.now.items ++ t) (text-line (worth_members c.args.weighed)))
    (append_two c.push_worth.new.text.items _ (10 ∷ []) _ _ (c.push_bytes.ensures.items ∙ ap (λ mark. c.push_worth.new.text.items ++ mark) (c.plan_mark.ensures.mark ∙ ap plan_mark c.is_planned.ensures)) c.push.ensures.items)
    ∙ ap (λ t. c.args.text.now.items ++ t) (sym (append_assoc _ (plan_mark (is_planned c.args.plan c.args.weighed.worth.pit)) (10 ∷ [])))
