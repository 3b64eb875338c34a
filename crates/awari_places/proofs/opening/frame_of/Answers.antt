use Rattle.std.proofs.Common.{◌≡◌, Some, length, rules, subst}
use Rattle.awari_folder.specs.Contents.{Reads}
use Rattle.awari_places.proofs.Framing.{frame_read, frame_refused}
use Rattle.awari_places.proofs.opening.frame_of.Goals as goal

pub returns-in-Ok-clause-exact : goal.returns-in-Ok-clause-exact
returns-in-Ok-clause-exact g c = λ name known.
    let read = subst (λ s. Reads s 0 c.read_at.new.room (Some c.in-Ok-Some.size)) known (subst (λ o. Reads ((g.F.Folder.state c.args.folder.now).stands c.args.level) 0 c.read_at.new.room o) c.in-Ok-Some.field-0-is c.in-Ok-Some.ensures.read) in
    let long : length c.read_at.new.room ≡ 52 = search rules in
    frame_read c.args.level c.in-Ok-Some.size c.in-Ok.limit c.read_at.new.room name long read c.in-Ok.ensures.exact

pub returns-in-Err-clause-exact : goal.returns-in-Err-clause-exact
returns-in-Err-clause-exact g c = λ name known.
    let read = subst (λ s. Reads s 0 c.read_at.new.room (Some c.in-Ok-Some.size)) known (subst (λ o. Reads ((g.F.Folder.state c.args.folder.now).stands c.args.level) 0 c.read_at.new.room o) c.in-Ok-Some.field-0-is c.in-Ok-Some.ensures.read) in
    let long : length c.read_at.new.room ≡ 52 = search rules in
    frame_refused c.args.level c.in-Ok-Some.size c.read_at.new.room name c.in-Err.fault long read c.in-Err.ensures.of_file c.in-Err.ensures.exact
