use Rattle.awari_table.proofs.ShelfLemmas.{entry_of-read}
use Rattle.awari_table.proofs.shelves.Shelf.entry_below.Goals as goal

pub returns : goal.returns
returns c =
    entry_of-read c.args.self.now c.args.board.now c.level.result.now.value c.entry_at.result
    (rw c.requires.stones c.level.ensures)
    (rw (← c.rank.ensures.rank, ← c.deref.ensures) c.entry_at.ensures)
