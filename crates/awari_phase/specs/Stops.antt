-- How a worker comes to a fault, and what became of owners that worked. What the public contracts say of a refused round goes by
-- this.
use Rattle.std.specs.Prelude.{◌≡◌, ◌≢◌, ◌⊎◌, ℕ, List, [], ◌∷◌, ◌++◌, None, Some}
use Rattle.awari_block.specs.Each.{EachTo}
use Rattle.awari_lines.specs.Rings.{IsOther, SamePairs, sent_to, received_from}
use Rattle.awari_lines.specs.declared.ends.Ends.{Ends}
use Rattle.awari_owner.specs.Outboxes.{Outboxes}
use Rattle.awari_owner.specs.Sound.{RefusesNote}
use Rattle.awari_block.specs.Part.{Part, HasFarthest}
use Rattle.awari_owner.specs.declared.faults.OwnerFault.{OwnerFault}
use Rattle.awari_owner.specs.declared.faults.OwnerFault.TheVariants.{Far, Memory}
use Rattle.awari_phase.specs.Owners.{Kept, Notes, Swept}
use Rattle.awari_phase.specs.declared.owners.Owner.{Owner}

-- One batch was taken off a ring, and a note of it was refused; nothing else was done.
pub record StopsTaking (e : Ends Notes) (part : Part) (o : Outboxes) (e' : Ends Notes) (part' : Part) (o' : Outboxes) (fault : OwnerFault) : Type 0 where
  pub from : ℕ
  pub batch : Notes
  pub other : IsOther e from
  pub pairs : SamePairs e e'
  pub sent : (j : ℕ) → IsOther e j → sent_to e' j ≡ sent_to e j
  pub popped : received_from e' from ≡ received_from e from ++ batch ∷ []
  pub others : (j : ℕ) → IsOther e j → j ≢ from → received_from e' j ≡ received_from e j
  pub outboxes : o' ≡ o
  pub refuses : RefusesNote batch.items part part' fault

-- Nothing was done: memory is wanting, or the next board to be spread has the greatest distance that can be stored.
pub record StopsSpreading (e : Ends Notes) (part : Part) (o : Outboxes) (e' : Ends Notes) (part' : Part) (o' : Outboxes) (fault : OwnerFault) : Type 0 where
  pub ends : e' ≡ e
  pub cells : part' ≡ part
  pub outboxes : o' ≡ o
  pub refused : (fault ≡ Memory) ⊎ ((fault ≡ Far) × HasFarthest part)

-- The worker kept what a worker keeps, up to a step that was refused for this fault.
pub record StopsAt (a : Owner) (e : Ends Notes) (part : Part) (o : Outboxes) (fault : OwnerFault) : Type 0 where
  pub until : Owner
  pub kept : Kept a until
  pub stops : StopsTaking until.ends until.part until.outboxes e part o fault ⊎ StopsSpreading until.ends until.part until.outboxes e part o fault

abbrev pub Stopped : Owner → Owner → OwnerFault → Type 0
Stopped a b fault = StopsAt a b.ends b.part b.outboxes fault

-- what became of an owner that worked: it kept what a worker keeps and made a sweep, or its worker stopped at the fault that
-- it has
pub record HasWorked (a b : Owner) : Type 0 where
  pub kept : b.fault ≡ None → Kept a b
  pub swept : b.fault ≡ None → Swept a b
  pub stopped : (fault : OwnerFault) → b.fault ≡ Some fault → Stopped a b fault

-- so it is of each of these owners
abbrev pub HaveWorked : List Owner → List Owner → Type 0
HaveWorked os ps = EachTo HasWorked os ps
