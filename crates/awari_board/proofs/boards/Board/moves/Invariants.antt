use Rattle.std.proofs.Common.{◌≤◌}
use Rattle.arrayvec.specs.ArrayVec.{array_vec_len}
use Rattle.awari_board.specs.Rules.{IsLegal}
use Rattle.awari_board.proofs.Listing.{IsListing}
use Rattle.awari_board.proofs.boards.Board.moves.Given as goal

abbrev pub invariant-loop-pit : goal.invariant-loop-pit
invariant-loop-pit l = record {
  few : array_vec_len l.moves ≤ l.pit;
  listing : IsListing (IsLegal l.self) l.pit l.moves.items;
}
