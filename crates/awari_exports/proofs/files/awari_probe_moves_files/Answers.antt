use Rattle.std.proofs.Common.{◌+◌, ℕ, List, map, subst, sum, sym}
use Rattle.std.specs.Prelude.{slice_index_or}
use Rattle.awari_table.specs.Images.{table_of}
use Rattle.awari_exports.specs.Files.{AreFilesOf}
use Rattle.awari_exports.specs.Told.{TellsMove}
use Rattle.awari_exports.proofs.files.awari_probe_moves_files.Goals as goal

pub returns-clause-moves : goal.returns-clause-moves
returns-clause-moves c = λ _ levels are pit d low.
    let own = c.in-Ok.ensures.board.0 in let files : List (List ℕ) = map (λ file. file.now) c.args.files.now in
    subst (λ (p : List ℕ). TellsMove (table_of levels) p pit (slice_index_or c.moves_by-moves.result pit d)) own
    (c.moves_by-moves.ensures levels (subst (λ (p : List ℕ). AreFilesOf (sum p + 1) files levels) (sym own) are) pit d low)
