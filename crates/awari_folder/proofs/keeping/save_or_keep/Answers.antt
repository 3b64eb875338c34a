use Rattle.std.proofs.Common.{◌≡◌, Some, rules, subst}
use Rattle.awari_file.specs.FileText.{file_text}
use Rattle.awari_folder.specs.Contents.{Opens}
use Rattle.awari_folder.proofs.Kept.{free_if, saves_kept}
use Rattle.awari_folder.proofs.Saved.{saves_after}
use Rattle.awari_folder.proofs.States.{leaves_if_free, leaves_same}
use Rattle.awari_folder.proofs.keeping.save_or_keep.Goals as goal

pub returns-in-Ok-Some-clause-outcome : goal.returns-in-Ok-Some-clause-outcome
returns-in-Ok-Some-clause-outcome g c = record {
  digest = c.digest_of_own.ensures.digest;
  saved = saves_kept g.F.File.Read.remaining (g.F.Folder.state c.args.folder.now) (g.F.Folder.state c.open.new.self) c.number-number.result c.args.level.now c.args.below _ c.in-Ok-Some.file c.digest_of_own.result
      c.number-number.ensures.number c.new.ensures.inner
      (subst (λ o. Opens g.F.File.Read.remaining ((g.F.Folder.state c.args.folder.now).stands c.number-number.result) o) c.in-Ok-Some.field-0-is c.in-Ok-Some.ensures.opened) c.digest_of_own.ensures.own c.digest_of_own.ensures.digest c.open.ensures.unchanged;
  err = search rules;
  leaves = leaves_same _ _ _ _ c.open.ensures.unchanged;
  refused = search rules;
}

pub returns-clause-outcome : goal.returns-clause-outcome
returns-clause-outcome g c =
    let opened = subst (λ o. Opens g.F.File.Read.remaining ((g.F.Folder.state c.args.folder.now).stands c.number-number.result) o) c.in-Ok-None.field-0-is c.in-Ok-None.ensures.opened in
    let free = free_if g.F.File.Read.remaining ((g.F.Folder.state c.args.folder.now).stands c.args.level.now.level) (rw c.number-number.ensures.number at opened) in
    let saved = c.save.ensures.outcome in
    record {
      digest = saved.digest;
      saved = saves_after (g.F.Folder.state c.args.folder.now) (g.F.Folder.state c.open.new.self) (g.F.Folder.state c.save.new.folder) c.args.level.now c.args.below c.save.result c.open.ensures.unchanged saved.saved;
      err = search rules;
      leaves =
          leaves_if_free c.args.level.now.level (λ left. left ≡ Some (file_text 2 c.args.level.now c.args.below)) (g.F.Folder.state c.args.folder.now) (g.F.Folder.state c.open.new.self) (g.F.Folder.state c.save.new.folder)
          c.open.ensures.unchanged free saved.leaves;
      refused = search rules;
    }
