use Rattle.awari_scan.proofs.Finding.{IsFinding}
use Rattle.awari_scan.proofs.targets.find_far.Given as goal

abbrev pub invariant-loop-source : goal.invariant-loop-source
invariant-loop-source l = IsFinding l.fn.far l.initial.targets l.targets l.found l.count l.yielded l.source-iterator
