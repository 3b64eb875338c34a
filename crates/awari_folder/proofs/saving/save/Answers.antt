use Rattle.std.proofs.Common.{rules, subst}
use Rattle.awari_folder.specs.Contents.{TellsRefusal}
use Rattle.awari_folder.proofs.Saved.{saves_over}
use Rattle.awari_folder.proofs.States.{drafts_then, leaves_if}
use Rattle.awari_folder.proofs.saving.save.Goals as goal

pub returns-else-is_err-clause-outcome : goal.returns-else-is_err-clause-outcome
returns-else-is_err-clause-outcome g c =
    let saved = c.put_in_place-saved.ensures in
    record {
      digest = saved.digest;
      saved =
          saves_over (g.F.Folder.state c.args.folder.now) (g.F.Folder.state c.create.new.self) (g.F.Folder.state c.put_in_place-saved.new.folder) c.args.level.now c.args.below _ _ c.put_in_place-saved.result
          c.create.ensures.drafts.0.stands (rw c.number-number.ensures.number at c.in-Ok.ensures.empty) saved.named saved.leaves.0.others saved.digest;
      err = search rules;
      leaves = leaves_if c.args.level.now.level _ _ _ _ (drafts_then c.args.level.now.level _ (g.F.Folder.state c.args.folder.now) (g.F.Folder.state c.create.new.self) (g.F.Folder.state c.put_in_place-saved.new.folder) (rw c.number-number.ensures.number at c.create.ensures.drafts.0) saved.leaves.0) (rw c.number-number.ensures.number at c.in-Ok.ensures.empty) (search rules);
      refused = subst (λ r. TellsRefusal c.put_in_place-saved.result r (g.F.Folder.state c.put_in_place-saved.new.folder).refusals) c.in-Ok.ensures.refused saved.refused;
    }
