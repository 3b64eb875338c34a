use Rattle.std.proofs.Common.{List}
use Rattle.awari_table.specs.Images.{table_of}
use Rattle.awari_table.specs.declared.images.Image.{Image}
use Rattle.awari_play.proofs.HoldingOut.{NoneTakes}
use Rattle.awari_play.proofs.longest.stubborn_pit.Given as goal

abbrev pub invariant-loop-pit : goal.invariant-loop-pit
invariant-loop-pit g l =
    let saying = g.T.Table.saying in
    record {
      none : (images : List Image) → saying.says l.fn.table images → NoneTakes (table_of images) l.board l.plies l.pit;
      keeps : saying.keeps l.fn.table l.table;
    }
