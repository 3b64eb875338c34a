use Rattle.std.proofs.Common.{refl}
use Rattle.awari_table.proofs.ShelfLemmas.{IsLevel-consistent}
use Rattle.awari_verify.proofs.verdicts.verify.Goals as goal

pub new-requires : goal.new-requires
new-requires c = IsLevel-consistent c.args.shelf.now c.args.image (c.in-None.ensures.none.0 refl)
