use Rattle.std.proofs.Common.{◌≡◌, ◌<◌, List, sum}
use Rattle.awari_game.specs.Shown.{Shows}
use Rattle.awari_table.specs.Images.{table_of}
use Rattle.awari_table.specs.declared.images.Image.{Image}
use Rattle.awari_play.proofs.HoldingOut.{IsHeld}
use Rattle.awari_play.proofs.longest.longest_line_by.Given as goal

abbrev pub invariant-loop : goal.invariant-loop
invariant-loop g l =
    let saying = g.T.Table.saying in
    record {
      shows : Shows l.game l.fn.board l.moves.items;
      known : sum l.game.board < saying.levels l.fn.table;
      held : (images : List Image) → saying.says l.fn.table images → IsHeld images l.counter l.fn.board l.game l.entry l.moves.items × (l.plies ≡ (table_of images).dist l.fn.board);
      keeps : saying.keeps l.fn.table l.table;
    }
