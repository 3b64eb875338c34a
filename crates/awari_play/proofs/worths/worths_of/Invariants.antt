use Rattle.std.proofs.Common.{◌≤◌, All, List, take}
use Rattle.std.specs.List.{AllZip}
use Rattle.arrayvec.specs.ArrayVec.{array_vec_len}
use Rattle.awari_board.specs.Rules.{IsLegal}
use Rattle.awari_table.specs.Images.{table_of}
use Rattle.awari_table.specs.declared.images.Image.{Image}
use Rattle.awari_play.specs.MoveWorth.{IsWorthOf}
use Rattle.awari_play.proofs.worths.worths_of.Given as goal

abbrev pub invariant-loop-pit : goal.invariant-loop-pit
invariant-loop-pit g l =
    let saying = g.T.Table.saying in
    record {
      few : array_vec_len l.worths ≤ l.pit-index;
      legal : All (λ w. IsLegal l.board w.pit) l.worths.items;
      each : (images : List Image) → saying.says l.fn.table images → AllZip (IsWorthOf (table_of images) l.board) (take l.pit-index l.pit-items) l.worths.items;
      keeps : saying.keeps l.fn.table l.table;
    }
