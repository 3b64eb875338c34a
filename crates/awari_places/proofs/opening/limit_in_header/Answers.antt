use Rattle.std.proofs.Common.{◌≡◌, None, Some, inl, inr, refl, subst}
use Rattle.awari_places.specs.Opening.{IsFrame}
use Rattle.awari_places.proofs.Framing.{limit_said}
use Rattle.awari_places.proofs.opening.limit_in_header.Goals as goal

pub returns-in-Ok-Some-clause-limit : goal.returns-in-Ok-Some-clause-limit
returns-in-Ok-Some-clause-limit g c = λ levels images says low.
    let frame : IsFrame c.args.level (says.names c.args.level) (Some c.in-Ok-Some.limit) = subst (IsFrame c.args.level (says.names c.args.level)) c.in-Ok-Some.field-0-is (c.in-Ok-Some.ensures.exact (says.names c.args.level) (says.known c.args.level)) in
    limit_said _ levels c.args.level c.in-Ok-Some.limit images says low frame

pub returns-in-Ok-None-clause-fault : goal.returns-in-Ok-None-clause-fault
returns-in-Ok-None-clause-fault g c = λ name known.
    let none : name ≡ None = subst (IsFrame c.args.level name) c.in-Ok-None.field-0-is (c.in-Ok-None.ensures.exact name known) in
    inr (none, refl)

pub returns-in-Err-clause-fault : goal.returns-in-Err-clause-fault
returns-in-Err-clause-fault g c = λ name known. inl (c.in-Err.ensures.exact name known)
