use Rattle.awari_table.specs.Images.{table_of}
use Rattle.awari_exports.specs.Told.{TellsMove}
use Rattle.awari_exports.proofs.Sixes.{six}
use Rattle.awari_exports.proofs.answers.told_moves.Goals as goal

pub returns : goal.returns
returns c = six (λ pit m. TellsMove (table_of c.args.shelf.now) c.args.board.now pit m) _ _ _ _ _ _ c.told_move.ensures c.told_move-2.ensures c.told_move-3.ensures c.told_move-4.ensures c.told_move-5.ensures c.told_move-6.ensures
