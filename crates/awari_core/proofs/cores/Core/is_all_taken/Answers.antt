use Rattle.std.proofs.Common.{◌≡◌, All, ap, sym, subst, ◌∙◌}
use Rattle.awari_core.specs.Core.{Core, IsSilent}
use Rattle.awari_core.proofs.cores.Core.is_all_taken.Goals as goal

pub returns : goal.returns
returns c =
    let items : c.deref.result.now ≡ c.args.self.now.senders = c.deref.ensures.value ∙ ap (λ (o : Core). o.senders) c.self.view_is in (
      λ t. subst (All IsSilent) items (c.are_silent.ensures.0 t),
      λ taken. c.are_silent.ensures.1 (subst (All IsSilent) (sym items) taken),
    )
