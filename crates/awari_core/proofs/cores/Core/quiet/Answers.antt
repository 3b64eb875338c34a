use Rattle.std.proofs.Common.{rules, ◌≡◌, [], All, ap, sym, subst, ◌∙◌}
use Rattle.awari_block.specs.Part.{Part}
use Rattle.awari_core.specs.Core.{Core}
use Rattle.awari_core.proofs.cores.Core.quiet.Goals as goal

pub returns-then-are_idle-clause-quiet : goal.returns-then-are_idle-clause-quiet
returns-then-are_idle-clause-quiet c =
    let items : c.deref.result.now ≡ c.args.self.now.parts = c.deref.ensures.value ∙ ap (λ (o : Core). o.parts) c.self.view_is in (
      λ t. (subst (All (λ (p : Part). p.fresh ≡ [])) items (c.are_idle.ensures.0 (search rules)), c.is_all_taken.ensures.0 t),
      λ quiet. c.is_all_taken.ensures.1 quiet.1,
    )

pub returns-else-are_idle-clause-quiet : goal.returns-else-are_idle-clause-quiet
returns-else-are_idle-clause-quiet c =
    let items : c.deref.result.now ≡ c.args.self.now.parts = c.deref.ensures.value ∙ ap (λ (o : Core). o.parts) c.self.view_is in (
      λ t. absurd cc,
      λ quiet. c.are_idle.ensures.1 (subst (All (λ (p : Part). p.fresh ≡ [])) (sym items) quiet.0),
    )
