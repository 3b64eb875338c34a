use Rattle.std.proofs.Common.{◌≤◌, [], refl, subst, sym}
use Rattle.awari_owner.specs.Owners.{AreSound}
use Rattle.awari_heard.specs.Level.{part_at}
use Rattle.awari_phase.specs.Owners.{parts_of, taken_notes}
use Rattle.awari_phase.proofs.Together.{all_closed, as_many, first_of, sound_finished}
use Rattle.awari_phase.proofs.laws.finished_owners_are_right.Goals as goal

pub returns-clause-heard : goal.returns-clause-heard
returns-clause-heard c value n os finished =
    let d = first_of os finished.some in
    let some = subst (λ k. 1 ≤ k) (sym (as_many os)) finished.some in
    let sound = subst (λ k. AreSound value n k (part_at (parts_of os)) (λ _ _. []) (taken_notes os d)) (sym (as_many os)) (sound_finished value n os finished d) in (
      c.sound_parts_are_told.ensures.whole value n (parts_of os) (λ _ _. []) (taken_notes os d) some sound,
      c.sound_parts_are_told.ensures.heard value n (parts_of os) (λ _ _. []) (taken_notes os d) some sound (λ i j in_i in_j apart. refl),
    )

pub returns-clause-closed : goal.returns-clause-closed
returns-clause-closed c = all_closed

pub returns-clause-right : goal.returns-clause-right
returns-clause-right c value n os finished closed p is stones =
    let (whole, heard) = returns-clause-heard c value n os finished in
    c.closed_parts_are_right.ensures value n (parts_of os) whole closed heard p is stones
