-- How a worker's fault is kept, from the step that was refused.
use Rattle.std.proofs.Common.{◌≡◌, ◌⊎◌, Option, Some, None, Result, Ok, Err, OnOk, IfErr, sym, subst, ◌∙◌}
use Rattle.std.specs.Result.{result_err}
use Rattle.awari_lines.specs.declared.ends.Ends.{Ends}
use Rattle.awari_owner.specs.Outboxes.{Outboxes}
use Rattle.awari_block.specs.Part.{Part}
use Rattle.awari_owner.specs.declared.faults.OwnerFault.{OwnerFault}
use Rattle.awari_phase.specs.declared.owners.Owner.{Owner}
use Rattle.awari_phase.specs.Owners.{Kept, Notes}
use Rattle.awari_phase.specs.Stops.{StopsAt, StopsSpreading, StopsTaking}
use Rattle.awari_phase.proofs.Keeping.{kept_refl, kept_trans, kept_owners}

pub stops_here : (a : Owner) (e : Ends Notes) (part : Part) (o : Outboxes) (fault : OwnerFault)
    → StopsTaking a.ends a.part a.outboxes e part o fault ⊎ StopsSpreading a.ends a.part a.outboxes e part o fault → StopsAt a e part o fault
stops_here a e part o fault stops = record { until = a; kept = kept_refl a; stops = stops }

pub kept_stopped : (a b : Owner) (e : Ends Notes) (part : Part) (o : Outboxes) (fault : OwnerFault) → Kept a b → StopsAt b e part o fault → StopsAt a e part o fault
kept_stopped a b e part o fault kept stopped = record { until = stopped.until; kept = kept_trans a b stopped.until kept stopped.kept; stops = stopped.stops }

-- what is known of a worker whose sweeps came to this
pub worked : (K : Type 0) (S : OwnerFault → Type 0) (result : Result Unit OwnerFault) (told : Option OwnerFault) → told ≡ result_err result → OnOk result K → IfErr result S
    → (told ≡ None → K) × ((fault : OwnerFault) → told ≡ Some fault → S fault)
worked K S (Ok u) told is kept stopped = ((λ none. kept), λ fault some. (let none : None ≡ Some fault = sym is ∙ some in absurd (cc)))
worked K S (Err had) told is kept stopped = (
  (λ none. (let none : Some had ≡ None = sym is ∙ none in absurd (cc))),
  λ fault some. (let same : Some had ≡ Some fault = sym is ∙ some in let e : had ≡ fault = cc in subst S e stopped),
)

pub ruleset stopping = (kept_refl, kept_trans, kept_owners, kept_stopped)
