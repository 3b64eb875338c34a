use Rattle.awari_folder.proofs.Written.{whole_of}
use Rattle.awari_folder.proofs.saving.write_whole.Goals as goal

pub returns-in-Ok-clause-whole : goal.returns-in-Ok-clause-whole
returns-in-Ok-clause-whole g c = λ empty. whole_of g.D.Write.contents g.D.Draft.kept _ _ _ _ _ _ c.new-writer.ensures.inner c.into_inner-new.ensures empty c.in_ok-digest.ensures.written c.in-Ok.ensures
