use Rattle.std.proofs.Common.{◌≡◌, ℕ, ◌<◌, List, None, get_or, length}
use Rattle.awari_table.specs.Images.{table_of}
use Rattle.awari_table.specs.Reached.{Reaches}
use Rattle.awari_table.specs.declared.images.Image.{Image}
use Rattle.awari_places.proofs.judging.see_moves.Given as goal

abbrev pub invariant-loop-pit : goal.invariant-loop-pit
invariant-loop-pit g l =
    let saying = g.T.Table.saying in
    record {
      six : length l.moves ≡ 6;
      seen : (images : List Image) → saying.says l.fn.table images → (x : ℕ) → x < l.pit → Reaches (table_of images) l.board x (get_or l.moves x None);
      keeps : saying.keeps l.fn.table l.table;
    }
