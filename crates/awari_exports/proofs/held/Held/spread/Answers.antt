use Rattle.std.proofs.Common.{ap, ◌∙◌}
use Rattle.awari_exports.specs.Held.{HeldView}
use Rattle.awari_exports.proofs.Slices.{spread_one}
use Rattle.awari_exports.proofs.held.Held.spread.Goals as goal

pub returns-in-Ok-clause-spreads : goal.returns-in-Ok-clause-spreads
returns-in-Ok-clause-spreads c =
    spread_one _ _ _ _ (c.in-Some.ensures.value ∙ ap (λ (v : HeldView). v.draft) c.self.view_is) c.in-Ok.ensures c.told_draft.ensures
