use Rattle.awari_desk.proofs.Grows.{admits}
use Rattle.awari_desk.proofs.pages.new_readers.Goals as goal

pub reader-requires : goal.reader-requires
reader-requires c = admits
