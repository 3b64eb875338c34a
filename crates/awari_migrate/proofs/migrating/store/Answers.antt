use Rattle.std.proofs.Common.{◌≡◌, Some, rules, subst}
use Rattle.awari_file.specs.FileText.{file_text}
use Rattle.awari_folder.specs.Contents.{Opens}
use Rattle.awari_folder.proofs.Kept.{free_if}
use Rattle.awari_folder.proofs.Saved.{saves_after}
use Rattle.awari_folder.proofs.States.{leaves_if_free}
use Rattle.awari_migrate.proofs.migrating.store.Goals as goal

pub returns-clause-fault : goal.returns-clause-fault
returns-clause-fault g c = search rules

pub returns-clause-kept : goal.returns-clause-kept
returns-clause-kept g c = search rules

pub returns-clause-outcome : goal.returns-clause-outcome
returns-clause-outcome g c =
    let opened = subst (λ o. Opens g.G.File.Read.remaining ((g.G.Folder.state c.args.to.now).stands c.number-number.result) o) c.in-Ok-None.field-0-is c.in-Ok-None.ensures.opened in
    let free = free_if g.G.File.Read.remaining ((g.G.Folder.state c.args.to.now).stands c.args.level.now.level) (rw c.number-number.ensures.number at opened) in
    let saved = c.save.ensures.outcome in
    record {
      digest = saved.digest;
      saved = saves_after (g.G.Folder.state c.args.to.now) (g.G.Folder.state c.open.new.self) (g.G.Folder.state c.save.new.folder) c.args.level.now c.args.below c.save.result c.open.ensures.unchanged saved.saved;
      err = search rules;
      leaves =
          leaves_if_free c.args.level.now.level (λ left. left ≡ Some (file_text 2 c.args.level.now c.args.below)) (g.G.Folder.state c.args.to.now) (g.G.Folder.state c.open.new.self) (g.G.Folder.state c.save.new.folder)
          c.open.ensures.unchanged free saved.leaves;
      refused = search rules;
    }
