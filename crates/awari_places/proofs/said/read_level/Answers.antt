use Rattle.awari_places.proofs.Collecting.{level_is}
use Rattle.awari_places.proofs.Reading.{still_says}
use Rattle.awari_places.proofs.said.read_level.Goals as goal

pub returns-in-Ok-read_entries-clause-image : goal.returns-in-Ok-read_entries-clause-image
returns-in-Ok-read_entries-clause-image g c = λ levels images says low.
    let still = still_says _ _ levels images c.in-Ok.ensures.same.stands says in
    level_is _ levels c.args.level c.in-Ok.limit images c.in-Ok-read_entries.entries says low (c.in-Ok.ensures.limit levels images says low) (c.in-Ok-read_entries.ensures.entries levels images still low) c.in-Ok-read_entries.ensures.sized
