use Rattle.std.proofs.Common.{length, ap, sym, subst, ◌∙◌}
use Rattle.awari_block.proofs.ListParts.{written}
use Rattle.awari_lines.specs.Rings.{IsGrid}
use Rattle.awari_heard.specs.Level.{AreWhole}
use Rattle.awari_phase.specs.Owners.{AreFinished, all_ends, parts_of}
use Rattle.awari_owner_tests.proofs.rounds.three_owners.Goals as goal

pub returns-clause-grid : goal.returns-clause-grid
returns-clause-grid g c =
    let items = c.in_ok-owners.owners.items in
    let long = sym c.in_ok-owners.owners.ok.0 in
    let same = written c.open_gain.new.owners items c.in_ok-owners.owners.len (c.open_gain.auto.owners ∙ ap length c.as_mut_slice.ensures.value ∙ long) long in
    subst (λ l. IsGrid (all_ends l)) (sym same) (c.open_gain.ensures.finished _ _ (subst (AreFinished _ _) (sym c.as_mut_slice.ensures.value) c.in_ok-owners.ensures.begun.finished)).grid

pub returns-clause-whole : goal.returns-clause-whole
returns-clause-whole g c =
    let items = c.in_ok-owners.owners.items in
    let long = sym c.in_ok-owners.owners.ok.0 in
    let same = written c.open_gain.new.owners items c.in_ok-owners.owners.len (c.open_gain.auto.owners ∙ ap length c.as_mut_slice.ensures.value ∙ long) long in
    let finished = c.open_gain.ensures.finished _ _ (subst (AreFinished _ _) (sym c.as_mut_slice.ensures.value) c.in_ok-owners.ensures.begun.finished) in
    subst (λ l. AreWhole 1 (parts_of l)) (sym same) (subst (λ n. AreWhole n (parts_of c.open_gain.new.owners)) c.in_ok-shelf.ensures (c.finished_owners_are_right.ensures.heard _ _ c.open_gain.new.owners finished).0)
