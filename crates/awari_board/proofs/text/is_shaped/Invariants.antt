use Rattle.awari_board.specs.Text.{is_separator, marks}
use Rattle.awari_board.proofs.Matching.{IsMatching}
use Rattle.awari_board.proofs.text.is_shaped.Given as goal

abbrev pub invariant-loop-byte : goal.invariant-loop-byte
invariant-loop-byte l = IsMatching is_separator marks l.text l.byte-index l.seen
