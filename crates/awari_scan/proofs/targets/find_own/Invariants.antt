use Rattle.awari_scan.proofs.Finding.{IsFinding}
use Rattle.awari_scan.proofs.targets.find_own.Given as goal

abbrev pub invariant-loop-source : goal.invariant-loop-source
invariant-loop-source l = IsFinding l.fn.own l.initial.targets l.targets 0 l.count l.yielded l.source-iterator
