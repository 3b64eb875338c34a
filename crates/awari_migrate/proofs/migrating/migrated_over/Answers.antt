use Rattle.awari_table.proofs.ShelfLemmas.{IsLevel-consistent}
use Rattle.awari_migrate.proofs.migrating.migrated_over.Goals as goal

pub new-requires : goal.new-requires
new-requires c = IsLevel-consistent c.args.shelf.now c.in_ok-least.least c.in_ok-least.ensures.consistent
