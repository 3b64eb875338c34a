use Rattle.std.proofs.Common.{◌≡◌, length}
use Rattle.std.specs.Prelude.{slice_index_or}
use Rattle.awari_index.specs.Runs.{AreAllTails}
use Rattle.awari_index.proofs.tails.Tails.of.Given as goal

abbrev pub invariant-loop-stones : goal.invariant-loop-stones
invariant-loop-stones l = record {
  tails : AreAllTails l.stones l.starts.items l.boards.items;
  here : slice_index_or l.starts.items l.stones 0 ≡ length l.boards.items;
}
