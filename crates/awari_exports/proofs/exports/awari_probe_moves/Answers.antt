use Rattle.std.proofs.Common.{◌≡◌, ℕ, List, rules, subst}
use Rattle.std.specs.Prelude.{slice_index_or}
use Rattle.awari_table.specs.Images.{table_of}
use Rattle.awari_table.specs.declared.images.Image.{Image}
use Rattle.awari_exports.specs.Owned.{levels_in}
use Rattle.awari_exports.specs.Told.{TellsMove}
use Rattle.awari_exports.proofs.exports.awari_probe_moves.Goals as goal

pub returns-clause-moves : goal.returns-clause-moves
returns-clause-moves c = λ _ pit d low.
    let m = slice_index_or c.told_moves-moves.result pit d in
    let same : c.shelf-2.result.now ≡ levels_in c.args.handle.now.is_open c.args.handle.now.held = search rules in
    subst (λ (l : List Image). TellsMove (table_of l) c.args.pits.now pit m) same
    (subst (λ (p : List ℕ). TellsMove (table_of c.shelf-2.result.now) p pit m) c.in-Ok.ensures.board.0 (c.told_moves-moves.ensures pit d low))
