use Rattle.std.proofs.Common.{◌^◌}
use Rattle.awari_segments.proofs.Laying.{IsLaying}
use Rattle.awari_segments.proofs.finding.find_of.Given as goal

abbrev pub invariant-loop-k : goal.invariant-loop-k
invariant-loop-k l = IsLaying (2 ^ l.log) l.initial.lists l.lists l.board l.targets l.count l.k
