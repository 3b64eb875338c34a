use Rattle.std.proofs.Common.{length, ap, sym, subst, ◌∙◌}
use Rattle.awari_block.proofs.ListParts.{written}
use Rattle.awari_lines.specs.Rings.{IsGrid}
use Rattle.awari_phase.specs.Owners.{AreFinished, all_ends}
use Rattle.awari_owner_tests.proofs.sweeps.opened_owners.Goals as goal

pub returns : goal.returns
returns g c =
    let items = c.in_ok-all.all.items in
    let long = sym c.in_ok-all.all.ok.0 in
    let same = written c.open_gain.new.owners items c.in_ok-all.all.len (c.open_gain.auto.owners ∙ ap length c.as_mut_slice.ensures.value ∙ long) long in
    subst (λ l. IsGrid (all_ends l)) (sym same) (c.open_gain.ensures.finished _ _ (subst (AreFinished _ _) (sym c.as_mut_slice.ensures.value) c.in_ok-all.ensures.begun.finished)).grid
