use Rattle.std.proofs.Common.{arith, ap, subst, sym, ◌∙◌}
use Rattle.awari_places.proofs.Refusing.{plies_fault}
use Rattle.awari_places.specs.Faults.{IsPliesFault, unplayed_fault}
use Rattle.awari_places.proofs.plies.line_plies.Goals as goal

pub returns-in-Err-clause-fault : goal.returns-in-Err-clause-fault
returns-in-Err-clause-fault g c =
    let is = c.unplayed_fault.ensures ∙ ap (λ rule. unplayed_fault rule c.in-Err.unplayed) c.rule_due.ensures in
    subst (IsPliesFault c.args.longest c.args.opened.levels (g.F.Folder.state c.args.folder.now).stands) (sym is)
    (plies_fault g.F.Folder.state _ c.args.longest c.in-Err.unplayed (omega (arith, c.requires.known)) c.in-Err.ensures.fault)
