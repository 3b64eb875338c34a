use Rattle.std.proofs.Common.{◌≡◌, ℕ, List, sum, take}
use Rattle.awari_scan.specs.Scan.{AreMovesBelow}
use Rattle.awari_scan.proofs.runs.moves_of.Given as goal

abbrev pub invariant-loop-pit : goal.invariant-loop-pit
invariant-loop-pit l = (p : List ℕ) → take 6 p ≡ take 6 l.head → sum p ≡ sum l.head → AreMovesBelow p l.pit l.moves.near l.moves.far
