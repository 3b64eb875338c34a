use Rattle.awari_table.specs.Images.{table_of}
use Rattle.awari_exports.specs.Told.{TellsMove}
use Rattle.awari_exports.proofs.Sixes.{six}
use Rattle.awari_exports.proofs.files.moves_by.Goals as goal

pub returns : goal.returns
returns c = λ levels are. six (λ pit m. TellsMove (table_of levels) c.args.board.now pit m) _ _ _ _ _ _
    (c.move_by.ensures levels are) (c.move_by-2.ensures levels are) (c.move_by-3.ensures levels are) (c.move_by-4.ensures levels are) (c.move_by-5.ensures levels are) (c.move_by-6.ensures levels are)
