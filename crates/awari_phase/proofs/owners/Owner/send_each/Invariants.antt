use Rattle.std.proofs.Common.{◌≡◌, ℕ, ◌<◌}
use Rattle.awari_lines.specs.Rings.{IsOther, owners_of}
use Rattle.awari_phase.specs.Owners.{HasSent, Kept}
use Rattle.awari_phase.specs.Steps.{TakesNothing}
use Rattle.awari_phase.proofs.owners.Owner.send_each.Given as goal

abbrev pub invariant-loop-place : goal.invariant-loop-place
invariant-loop-place l = record {
  kept : Kept l.fn.self l.self;
  owners : l.owners ≡ owners_of l.self.ends;
  part : l.self.part ≡ l.fn.self.part;
  received : TakesNothing l.fn.self l.self;
  sent : (j : ℕ) → j < l.place → IsOther l.fn.self.ends j → HasSent l.fn.self l.self j;
}
