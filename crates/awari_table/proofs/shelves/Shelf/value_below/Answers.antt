use Rattle.std.proofs.Common.{◌∙◌, rules, FitsSigned, w8}
use Rattle.std.proofs.lemmas.Int.{to_z-of_z}
use Rattle.awari_table.proofs.ShelfLemmas.{value_of-read}
use Rattle.awari_table.proofs.shelves.Shelf.value_below.Goals as goal

pub returns : goal.returns
returns c =
    let fits : FitsSigned w8 c.value_at.result = search rules in
    to_z-of_z w8 _ fits ∙ value_of-read c.args.self.now c.args.board.now c.level.result.now.value c.value_at.result
    (rw c.requires.stones c.level.ensures)
    (rw (← c.rank.ensures.rank, ← c.deref.ensures) c.value_at.ensures)
