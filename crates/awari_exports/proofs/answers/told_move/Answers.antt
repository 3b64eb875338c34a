use Rattle.std.proofs.Common.{ap, rules, sym, true≢false, ◌∙◌}
use Rattle.awari_exports.specs.declared.answers.PlainMove.{PlainMove}
use Rattle.awari_exports.proofs.answers.told_move.Goals as goal

pub returns : goal.returns
returns c = record {
  legal = (λ _. search rules, λ _. ap (λ (m : PlainMove). m.legal) c.told_worth.ensures);
  worth = λ _. (c.worth_of.result, c.worth_of.ensures, c.told_worth.ensures);
  rest = λ none. absurd (true≢false (sym (ap (λ (m : PlainMove). m.legal) c.told_worth.ensures) ∙ none));
}
