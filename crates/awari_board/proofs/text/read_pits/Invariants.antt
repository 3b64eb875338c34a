use Rattle.awari_board.proofs.Scanning.{IsReading}
use Rattle.awari_board.proofs.text.read_pits.Given as goal

abbrev pub invariant-loop-place : goal.invariant-loop-place
invariant-loop-place l = IsReading l.text l.place l.pits l.rest
