use Rattle.std.proofs.Common.{◌<◌, List, sum, take}
use Rattle.awari_game.specs.Shown.{Shows}
use Rattle.awari_table.specs.declared.images.Image.{Image}
use Rattle.awari_play.proofs.PlyLaws.{IsTold}
use Rattle.awari_play.proofs.plies.plies_of.Given as goal

abbrev pub invariant-loop-index : goal.invariant-loop-index
invariant-loop-index g l =
    let saying = g.T.Table.saying in
    record {
      shows : Shows l.game l.fn.board (take l.index l.moves);
      known : sum l.game.board < saying.levels l.fn.table;
      told : (images : List Image) → saying.says l.fn.table images → IsTold images l.fn.board l.moves l.index l.game l.plies.items;
      keeps : saying.keeps l.fn.table l.table;
    }
