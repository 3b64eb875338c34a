use Rattle.std.proofs.Common.{◌≤◌, IfSome, get_or}
use Rattle.awari_heard.specs.Level.{no_part}
use Rattle.awari_core.specs.Core.{IsLeastOf}
use Rattle.awari_core.proofs.cores.Core.due.Given as goal

abbrev pub invariant-loop-part : goal.invariant-loop-part
invariant-loop-part l = record {
  least : IsLeastOf l.self.parts l.part-index l.least;
  timely : IfSome l.least (λ dist. (get_or l.self.parts 0 no_part).wave ≤ dist);
}
