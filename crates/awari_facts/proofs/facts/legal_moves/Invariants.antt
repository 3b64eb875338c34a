use Rattle.std.proofs.Common.{◌≡◌, ◌≤◌, count_by}
use Rattle.std.specs.List.{range_with_len}
use Rattle.awari_board.specs.Tests.{is_legal}
use Rattle.awari_facts.proofs.facts.legal_moves.Given as goal

abbrev pub invariant-loop-pit : goal.invariant-loop-pit
invariant-loop-pit l = record {
  few : l.count ≤ l.pit;
  counted : l.count ≡ count_by (is_legal l.board) (range_with_len 0 l.pit);
}
