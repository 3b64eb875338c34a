use Rattle.std.proofs.Common.{◌≡◌, fold, take}
use Rattle.awari_facts.specs.Facts.{greedier, no_capture}
use Rattle.awari_facts.proofs.looks.greediest.Given as goal

abbrev pub invariant-loop-pit : goal.invariant-loop-pit
invariant-loop-pit l = record { found : l.most ≡ fold greedier no_capture (take l.pit l.moves) }
