use Rattle.std.proofs.Common.{◌≡◌, ◌≤◌, All, List, map, take}
use Rattle.arrayvec.specs.ArrayVec.{array_vec_len}
use Rattle.awari_table.specs.declared.images.Image.{Image}
use Rattle.awari_play.specs.Worths.{IsReplied, worth_in}
use Rattle.awari_play.proofs.weighing.with_replies.Given as goal

abbrev pub invariant-loop-worth : goal.invariant-loop-worth
invariant-loop-worth g l =
    let saying = g.T.Table.saying in
    record {
      few : array_vec_len l.moves ≤ l.worth-index;
      worths : map worth_in l.moves.items ≡ take l.worth-index l.worths;
      replies : (images : List Image) → saying.says l.fn.table images → All (IsReplied l.asked images l.board) l.moves.items;
      keeps : saying.keeps l.fn.table l.table;
    }
