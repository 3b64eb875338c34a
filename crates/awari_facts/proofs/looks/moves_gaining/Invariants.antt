use Rattle.std.proofs.Common.{◌≡◌, ◌≤◌, count_by, take}
use Rattle.awari_facts.specs.Facts.{gains}
use Rattle.awari_facts.proofs.looks.moves_gaining.Given as goal

abbrev pub invariant-loop-pit : goal.invariant-loop-pit
invariant-loop-pit l = record { few : l.count ≤ l.pit; counted : l.count ≡ count_by (gains l.value) (take l.pit l.moves) }
