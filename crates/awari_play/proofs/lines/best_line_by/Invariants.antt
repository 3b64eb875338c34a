use Rattle.std.proofs.Common.{◌<◌, List, sum}
use Rattle.awari_game.specs.Shown.{Shows}
use Rattle.awari_play.proofs.Following.{IsUnderWay, left_of}
use Rattle.awari_table.specs.Images.{table_of}
use Rattle.awari_table.specs.declared.images.Image.{Image}
use Rattle.awari_play.proofs.lines.best_line_by.Given as goal

abbrev pub invariant-loop-outcome : goal.invariant-loop-outcome
invariant-loop-outcome g l =
    let saying = g.T.Table.saying in
    record {
      shows : Shows l.game l.fn.board l.moves.items;
      known : sum l.game.board < saying.levels l.fn.table;
      way : (images : List Image) → saying.says l.fn.table images
          → IsUnderWay (table_of images) l.limit l.fn.board l.game l.moves.items;
      keeps : saying.keeps l.fn.table l.table;
    }

abbrev pub decreases-loop-outcome : goal.decreases-loop-outcome
decreases-loop-outcome g l = left_of l.limit l.game
