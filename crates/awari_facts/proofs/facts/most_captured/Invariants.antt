use Rattle.std.proofs.Common.{◌≡◌}
use Rattle.std.specs.List.{range_with_len}
use Rattle.awari_facts.specs.Facts.{most_of}
use Rattle.awari_facts.proofs.facts.most_captured.Given as goal

abbrev pub invariant-loop-pit : goal.invariant-loop-pit
invariant-loop-pit l = record { found : l.most ≡ most_of l.board (range_with_len 0 l.pit) }
