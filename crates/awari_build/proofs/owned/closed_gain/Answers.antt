use Rattle.std.proofs.Common.{length, ap, sym, subst, ◌∙◌, inl, inr}
use Rattle.awari_block.proofs.ListParts.{written}
use Rattle.awari_lines.specs.Rings.{IsGrid}
use Rattle.awari_phase.specs.Owners.{AreFinished, AreTogether, all_ends}
use Rattle.awari_phase.proofs.Worked.{together_finished}
use Rattle.awari_build.proofs.Gains.{next_open, phase_ends}
use Rattle.awari_build.proofs.owned.closed_gain.Goals as goal

pub gain_phase_with_progress-requires-clause-grid : goal.gain_phase_with_progress-requires-clause-grid
gain_phase_with_progress-requires-clause-grid g c κs within =
    let same = written c.open_gain.new.owners c.args.owners.items c.args.owners.len (c.open_gain.auto.owners ∙ ap length c.as_mut_slice.ensures.value ∙ sym c.args.owners.ok.0) (sym c.args.owners.ok.0) in
    let rest = c.requires.rest in
    subst (λ l. IsGrid (all_ends l)) (sym same) (c.open_gain.ensures.finished rest.0 rest.1 (subst (AreFinished rest.0 rest.1) (sym c.as_mut_slice.ensures.value) rest.4.finished)).grid

pub returns-in-Ok-clause-closed : goal.returns-in-Ok-clause-closed
returns-in-Ok-clause-closed g c = λ value n gain at.
    let same = written c.open_gain.new.owners c.args.owners.items c.args.owners.len (c.open_gain.auto.owners ∙ ap length c.as_mut_slice.ensures.value ∙ sym c.args.owners.ok.0) (sym c.args.owners.ok.0) in
    phase_ends value n gain c.open_gain.new.owners _ c.in-Ok.all.items same
    (next_open value n gain c.args.owners.items c.as_mut_slice.result.now c.open_gain.new.owners c.as_mut_slice.ensures.value c.open_gain.auto.owners c.open_gain.ensures.finished (λ i d h. (c.open_gain.ensures.each.each i d h).gain) at)
    c.in-Ok.ensures.closes.grown c.in-Ok.ensures.closes.idle c.in-Ok.ensures.closes.finished

pub returns-in-Err-clause-phase : goal.returns-in-Err-clause-phase
returns-in-Err-clause-phase g c =
    let same = written c.open_gain.new.owners c.args.owners.items c.args.owners.len (c.open_gain.auto.owners ∙ ap length c.as_mut_slice.ensures.value ∙ sym c.args.owners.ok.0) (sym c.args.owners.ok.0) in
    let rest = c.requires.rest in
    elim (c.in-Err.ensures.wanting rest.0 rest.1 rest.5
    (subst (AreTogether rest.0 rest.1) (sym same) (together_finished rest.0 rest.1 c.open_gain.new.owners (c.open_gain.ensures.finished rest.0 rest.1 (subst (AreFinished rest.0 rest.1) (sym c.as_mut_slice.ensures.value) rest.4.finished))))) [
      | inl want ↦ inl (c.of_phase.ensures.wanting want)
      | inr stop ↦ inr (c.of_phase.ensures.stopped stop.0, stop.1)
    ]
